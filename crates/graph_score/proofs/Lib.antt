mod Common
mod GraphLegs
mod Failures
mod Trees
mod ExitLemmas
mod Looks

-- What a command does with each option, and which options of a line it cannot take or are missing.
use Rattle.std.specs.Prelude.{ℕ, List, Option, Some, None, Bool, true, false, not, ◌&&◌, nat_lt}
use Rattle.command_line.specs.declared.options.{Command.Command, OptionName.{OptionName, TheVariants.{Cut, Feed, Delays, From, To, At, Alpha, Horizon, Graph}}}
use Rattle.command_line.specs.declared.options.{OptionName.TheVariants.{Late, Size, Proof, By, Until, Last}, OwnUses.OwnUses, Use.{Use, TheVariants.Needed}}
use Rattle.command_line.specs.{declared.options.Use.TheVariants.{Optional, Unused, OneOf, With}, Options.option_number, Settings.is_given}
use Rattle.command_line.specs.declared.options.Command.TheVariants as command

-- a command about a journey that takes none of the options which not each such command takes
abbrev pub no_own : OwnUses
no_own = record { from = Unused; alpha = Unused; graph = Unused; late = Unused; proof = Unused; by = Unused; until = Unused; last = Unused }

-- what a command about a journey does with an option
abbrev pub on_journey : OwnUses → OptionName → Use
on_journey own Cut = OneOf Feed
on_journey own Feed = OneOf Cut
on_journey own Delays = Needed
on_journey own From = own.from
on_journey own To = Needed
on_journey own At = Needed
on_journey own Alpha = own.alpha
on_journey own Horizon = With Feed
on_journey own Graph = own.graph
on_journey own Late = own.late
on_journey own Size = Unused
on_journey own Proof = own.proof
on_journey own By = own.by
on_journey own Until = own.until
on_journey own Last = own.last

-- what a command about a made timetable does with an option
abbrev pub on_made : OptionName → Use
on_made Cut = Unused
on_made Feed = Unused
on_made Delays = Unused
on_made From = Unused
on_made To = Unused
on_made At = Unused
on_made Alpha = Unused
on_made Horizon = Unused
on_made Graph = Unused
on_made Late = Unused
on_made Size = Needed
on_made Proof = Unused
on_made By = Unused
on_made Until = Unused
on_made Last = Unused

-- what a command about a journey does with the options that not each such command takes; none where it is about a made timetable
abbrev pub own_of : Command → Option OwnUses
own_of command.Safe = Some (record no_own { from = Needed; alpha = Optional })
own_of command.Expand = Some (record no_own { from = Needed; alpha = Optional })
own_of command.Plan = Some (record no_own { from = Needed; alpha = Optional })
own_of command.Replay = Some (record no_own { from = Needed; graph = Needed; late = Needed })
own_of command.Certify = Some (record no_own { from = Needed; alpha = Optional })
own_of command.Check = Some (record no_own { from = Needed; graph = OneOf Proof; proof = OneOf Graph })
own_of command.Punctual = Some (record no_own { from = Needed; alpha = Optional; by = Needed })
own_of command.Departures = Some (record no_own { from = Needed; until = Needed; last = Needed })
own_of command.Latest = Some (record no_own { from = Needed; until = Needed })
own_of command.Reach = Some (record no_own { until = Needed })
own_of command.Sample = None

abbrev pub use_by : Option OwnUses → OptionName → Use
use_by None option = on_made option
use_by (Some own) option = on_journey own option

-- what a command does with an option
abbrev pub use_of : Command → OptionName → Use
use_of command option = use_by (own_of command) option

-- the number of an option is less than that of another
abbrev pub is_before : OptionName → OptionName → Bool
is_before option other = nat_lt (option_number option) (option_number other)

-- settings leave a use for the option: of two of which one is needed, not for the lesser where the other is given
abbrev pub is_used : List (List ℕ) → OptionName → Use → Bool
is_used settings option Needed = true
is_used settings option Optional = true
is_used settings option Unused = false
is_used settings option (OneOf other) = not (is_before option other && is_given settings other)
is_used settings option (With other) = is_given settings other

-- settings need the option: of two of which one is needed, the greater where the other is not given
abbrev pub is_needed : List (List ℕ) → OptionName → Use → Bool
is_needed settings option Needed = true
is_needed settings option Optional = false
is_needed settings option Unused = false
is_needed settings option (OneOf other) = is_before other option && not (is_given settings other)
is_needed settings option (With other) = false

-- it is given, and the command has no use for it
abbrev pub is_useless : Command → List (List ℕ) → OptionName → Bool
is_useless command settings option = not (is_used settings option (use_of command option)) && is_given settings option

-- it is needed, and not given
abbrev pub is_missing : Command → List (List ℕ) → OptionName → Bool
is_missing command settings option =
    is_needed settings option (use_of command option) && not (is_given settings option)

mod Common
mod ActiveLemmas
mod NumberLemmas
mod PeriodLemmas
mod ReadLemmas

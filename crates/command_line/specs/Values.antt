-- The forms of the values.
use Rattle.std.specs.Prelude.{ℕ, ◌+◌, List, [], ◌∷◌, Option, Some, None, Bool, true, false, not, ◌&&◌, is_some, if◌then◌else◌, nat_le, ◌==◌, map, length, codes}
use Rattle.std.specs.{Prelude.{option_and_then, unwrap_or}, List.{slice_split, list_all}, Str.bytes_eq}
use Rattle.plan_model.specs.Bounds.{first_start, last_start, least_alpha, most_alpha, least_horizon, most_horizon, least_size, most_size, seconds_per_day}
use Rattle.clock_text.specs.{Digits.whole_of, Times.moment_at}
use Rattle.command_line.specs.{Settings.{is_given, text_of}, declared.values.TheConstants.{LAST_UNTIL, LONGEST_PROMISE, MOST_DELAYS}}
use Rattle.command_line.specs.declared.options.OptionName.{OptionName, TheVariants.{Cut, Feed, Delays, From, To, At, Alpha, Horizon, Graph, Late, Size, Proof}}
use Rattle.command_line.specs.declared.options.OptionName.TheVariants.{By, Until, Last}

-- the last moment of a deadline, and at which departures are looked for: 2400-12-31T23:59:59
abbrev pub last_until : ℕ
last_until = LAST_UNTIL

-- the percentage of a deadline that is taken where none is given
abbrev pub default_alpha : ℕ
default_alpha = 200

-- the hours of a window that are taken where none are given
abbrev pub default_horizon : ℕ
default_horizon = 24

-- the longest delay that was met, in seconds: a day
abbrev pub longest_delay : ℕ
longest_delay = seconds_per_day

-- at least so much
abbrev pub from_on : ℕ → ℕ → Option ℕ
from_on least n = if nat_le least n then Some n else None

-- at most so much
abbrev pub up_to : ℕ → ℕ → Option ℕ
up_to most n = if nat_le n most then Some n else None

-- a moment of a range
abbrev pub moment_of : (first last : ℕ) → List ℕ → Option ℕ
moment_of first last text = option_and_then (up_to last) (option_and_then (from_on first) (moment_at text))

-- a moment at which a journey may begin
abbrev pub start_at : List ℕ → Option ℕ
start_at text = moment_of first_start last_start text

-- the moment that the journey of settings begins at
abbrev pub start_of : List (List ℕ) → ℕ
start_of settings = unwrap_or (start_at (text_of settings At)) first_start

-- a moment by which the journey of settings may be promised to end
abbrev pub promise_at : List (List ℕ) → Option ℕ
promise_at settings = moment_of (start_of settings) (start_of settings + LONGEST_PROMISE) (text_of settings By)

-- the moment of an option, which is not before the journey of settings begins
abbrev pub later_at : List (List ℕ) → OptionName → Option ℕ
later_at settings option = moment_of (start_of settings) last_until (text_of settings option)

-- a whole number of a range
abbrev pub number_at : (least most : ℕ) → List ℕ → Option ℕ
number_at least most text = option_and_then (from_on least) (whole_of most text)

-- a percentage of a deadline
abbrev pub alpha_at : List ℕ → Option ℕ
alpha_at text = number_at least_alpha most_alpha text

-- the hours of a window
abbrev pub horizon_at : List ℕ → Option ℕ
horizon_at text = number_at least_horizon most_horizon text

-- the size of a feed that is made
abbrev pub size_at : List ℕ → Option ℕ
size_at text = number_at least_size most_size text

-- what is between the commas of a text
abbrev pub pieces : List ℕ → List (List ℕ)
pieces text = slice_split (λ byte. byte == 44) text

-- a delay in seconds
abbrev pub delay_at : List ℕ → Option ℕ
delay_at text = whole_of longest_delay text

abbrev pub is_delay : List ℕ → Bool
is_delay text = is_some (delay_at text)

-- the delay of a text, and 0 if it has none
abbrev pub delay_in : List ℕ → ℕ
delay_in text = unwrap_or (delay_at text) 0

-- one delay or more, not too many
abbrev pub are_delays : List (List ℕ) → Bool
are_delays texts = nat_le (length texts) MOST_DELAYS && list_all is_delay texts

-- the delays of a text: none, or those joined by commas
abbrev pub late_at : List ℕ → Option (List ℕ)
late_at text =
    if bytes_eq text (codes "none") then Some []
    else if are_delays (pieces text) then Some (map delay_in (pieces text))
    else None

abbrev pub is_empty : List ℕ → Bool
is_empty [] = true
is_empty (byte ∷ bytes) = false

-- the value that settings give to an option is of its form; a path or a stop is not empty
abbrev pub has_form : List (List ℕ) → OptionName → Bool
has_form settings Cut = not (is_empty (text_of settings Cut))
has_form settings Feed = not (is_empty (text_of settings Feed))
has_form settings Delays = not (is_empty (text_of settings Delays))
has_form settings From = not (is_empty (text_of settings From))
has_form settings To = not (is_empty (text_of settings To))
has_form settings At = is_some (start_at (text_of settings At))
has_form settings Alpha = is_some (alpha_at (text_of settings Alpha))
has_form settings Horizon = is_some (horizon_at (text_of settings Horizon))
has_form settings Graph = not (is_empty (text_of settings Graph))
has_form settings Late = is_some (late_at (text_of settings Late))
has_form settings Size = is_some (size_at (text_of settings Size))
has_form settings Proof = not (is_empty (text_of settings Proof))
has_form settings By = is_some (promise_at settings)
has_form settings Until = is_some (later_at settings Until)
has_form settings Last = is_some (later_at settings Last)

-- it is given, and not of its form
abbrev pub is_bad : List (List ℕ) → OptionName → Bool
is_bad settings option = is_given settings option && not (has_form settings option)

-- The commands and the options by their words.
use Rattle.std.specs.{Prelude.{ℕ, List, [], ◌∷◌, Option, codes, find, ◌==◌}, Option.option_map_or, Str.bytes_eq}
use Rattle.command_line.specs.declared.options.Command.{Command, TheVariants.{Safe, Expand, Plan, Replay, Certify, Check, Punctual, Departures, Latest, Reach}}
use Rattle.command_line.specs.declared.options.{Command.TheVariants.Sample, OptionName.{OptionName, TheVariants.{Cut, Feed, Delays, From, To, At, Alpha}}}
use Rattle.command_line.specs.declared.options.OptionName.TheVariants.{Horizon, Graph, Late, Size, Proof, By, Until, Last}

-- the word of an option
abbrev pub option_name : OptionName → List ℕ
option_name Cut = codes "--cut"
option_name Feed = codes "--feed"
option_name Delays = codes "--delays"
option_name From = codes "--from"
option_name To = codes "--to"
option_name At = codes "--at"
option_name Alpha = codes "--alpha"
option_name Horizon = codes "--horizon"
option_name Graph = codes "--graph"
option_name Late = codes "--late"
option_name Size = codes "--size"
option_name Proof = codes "--proof"
option_name By = codes "--by"
option_name Until = codes "--until"
option_name Last = codes "--last"

-- the number of an option
abbrev pub option_number : OptionName → ℕ
option_number Cut = 1
option_number Feed = 2
option_number Delays = 3
option_number From = 4
option_number To = 5
option_number At = 6
option_number Alpha = 7
option_number Horizon = 8
option_number Graph = 9
option_number Late = 10
option_number Size = 11
option_number Proof = 12
option_number By = 13
option_number Until = 14
option_number Last = 15

-- the options by their numbers
abbrev pub all_options : List OptionName
all_options = Cut ∷ Feed ∷ Delays ∷ From ∷ To ∷ At ∷ Alpha ∷ Horizon ∷ Graph ∷ Late ∷ Size ∷ Proof ∷ By ∷ Until ∷ Last ∷ []

-- the option of this number
abbrev pub option_numbered : ℕ → Option OptionName
option_numbered k = find (λ option. option_number option == k) all_options

-- the word of the option of this number, and nothing where none has it
abbrev pub option_word : ℕ → List ℕ
option_word k = option_map_or option_name (option_numbered k) []

-- the option that a word names
abbrev pub option_named : List ℕ → Option OptionName
option_named word = find (λ option. bytes_eq word (option_name option)) all_options

-- the word of a command
abbrev pub command_word : Command → List ℕ
command_word Safe = codes "safe"
command_word Expand = codes "expand"
command_word Plan = codes "plan"
command_word Replay = codes "replay"
command_word Certify = codes "certify"
command_word Check = codes "check"
command_word Punctual = codes "punctual"
command_word Departures = codes "departures"
command_word Latest = codes "latest"
command_word Reach = codes "reach"
command_word Sample = codes "sample"

abbrev pub all_commands : List Command
all_commands = Safe ∷ Expand ∷ Plan ∷ Replay ∷ Certify ∷ Check ∷ Punctual ∷ Departures ∷ Latest ∷ Reach ∷ Sample ∷ []

-- the command that a word names
abbrev pub command_named : List ℕ → Option Command
command_named word = find (λ command. bytes_eq word (command_word command)) all_commands

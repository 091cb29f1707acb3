-- The texts of refusals of words.
use Rattle.std.specs.Prelude.{ℕ, List, ◌++◌, codes}
use Rattle.command_line.specs.{declared.job.WordsFault.{WordsFault, TheVariants.{Line, UnknownCommand, NotUsed, Missing, BadValue}}, Options.option_word}

-- the text of a fault of the words
abbrev pub words_fault_text : WordsFault → List ℕ
words_fault_text Line = codes "words refused"
words_fault_text UnknownCommand = codes "unknown command"
words_fault_text (NotUsed option) = codes "option " ++ option_word option ++ codes " is not used here"
words_fault_text (Missing option) = codes "missing option " ++ option_word option
words_fault_text (BadValue option) = codes "bad value of " ++ option_word option

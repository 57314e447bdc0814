-- The message for a refused run, in one line.
use Rattle.std.specs.Prelude.{ℕ, List, [], ◌∷◌, ◌++◌, Option, Some, None, codes, decimal, if◌then◌else◌}
use Rattle.std.specs.Prelude.{nat_eq, nat_lt}
use Rattle.std.specs.Borrow.{Bor}
use Rattle.std.specs.Fmt.{◌++?◌}
use Rattle.std.specs.List.{ends_with}
use Rattle.std.specs.Str.{bytes_eq}
use Rattle.std.specs.declared.io.ErrorKind.TheVariants.{NotFound, Other, Uncategorized}
use Rattle.lbk_feed.specs.Text.{greatest_limit, longest_text}
use Rattle.lbk_ucd.specs.declared.which.Which.{Which}
use Rattle.lbk_ucd.specs.declared.which.Which.TheVariants.{LineBreak, EastAsianWidth, Category, Emoji}
use Rattle.lbk_files.specs.FileNames.{file_name}
use Rattle.lbk_passage.specs.declared.faults.PassageFault.{PassageFault}
use Rattle.lbk_passage.specs.declared.faults.PassageFault.TheVariants as passage
use Rattle.lbk_notation.specs.declared.findings.ReplayFault.TheVariants as replay
use Rattle.lbk_args.specs.Command.{default_limit}
use Rattle.lbk_args.specs.OneLine.{one_line}
use Rattle.lbk_args.specs.declared.order.Engine.{Engine}
use Rattle.lbk_args.specs.declared.order.Engine.TheVariants.{Mark, Show, Segment, Chunk, Replay}
use Rattle.lbk_args.specs.declared.order.FileName.{FileName}
use Rattle.lbk_args.specs.declared.order.FileName.TheVariants.{Given, InFolder}
use Rattle.lbk_args.specs.declared.order.FileNames.{FileNames}
use Rattle.lbk_args.specs.declared.order.PropertyValues.{PropertyValues}
use Rattle.lbk_args.specs.declared.order.PropertyValues.TheVariants.{BuiltIn, Files}
use Rattle.lbk_files.specs.declared.faults.CellsFault.TheVariants as cells
use Rattle.lbk_ucd.specs.ClaimTexts.{remedy_text}
use Rattle.lbk_files.specs.declared.ClaimCause.{ClaimCause}
use Rattle.lbk_files.specs.declared.ClaimCause.TheVariants.{Changed}
use Rattle.lbk_files.specs.FaultText.{fault_text}
use Rattle.lbk_files.specs.Named.{name_in_database}
use Rattle.lbk_cmd.specs.declared.ending.RunFault.{RunFault}
use Rattle.lbk_cmd.specs.declared.ending.RunFault.TheVariants as run
use Rattle.lbk_cmd.specs.declared.faults.CmdFault.TheVariants as cmd
use Rattle.lbk_cmd.specs.declared.message.Caller.{Caller}
use Rattle.lbk_cmd.specs.declared.message.Caller.TheVariants.{Call, NoWords, Words}
use Rattle.lbk_cmd.specs.declared.message.Message.{Message}
use Rattle.lbk_cmd.specs.declared.parts_of_messages.Encoding.{Encoding}
use Rattle.lbk_cmd.specs.declared.parts_of_messages.Encoding.TheVariants.{Utf16, Latin1}
use Rattle.lbk_cmd.specs.declared.parts_of_messages.Input.{Input}
use Rattle.lbk_cmd.specs.declared.parts_of_messages.Input.TheVariants as of_input
use Rattle.lbk_cmd.specs.declared.parts_of_messages.Name.{Name}
use Rattle.lbk_cmd.specs.declared.parts_of_messages.Name.TheVariants as of_file
use Rattle.lbk_cmd.specs.declared.parts_of_messages.Reason.{Reason}
use Rattle.lbk_cmd.specs.declared.parts_of_messages.Reason.TheVariants.{System, IsOutput}

-- the reason after a colon, if the program words it; nothing is known about the system's other texts
abbrev pub why_text : Option Reason → Option (List ℕ)
why_text None = Some []
why_text (Some IsOutput) = Some (codes ": input file is output file")
why_text (Some (System Other)) = Some []
why_text (Some (System Uncategorized)) = Some []
why_text (Some (System NotFound)) = Some (codes ": no such file")
why_text (Some (System kind)) = None

-- the name of a file in the arguments
abbrev pub name_in : FileNames → Which → FileName
name_in files LineBreak = files.line_break
name_in files EastAsianWidth = files.east_asian
name_in files Category = files.category
name_in files Emoji = files.emoji

abbrev pub word_text : FileName → Which → List ℕ
word_text (Given name) which = one_line name.now
word_text (InFolder folder) which = one_line folder.now ++ (47 ∷ name_in_database which)

-- built-in values have no files
abbrev pub named_text : PropertyValues → Which → List ℕ
named_text BuiltIn which = file_name which
named_text (Files files) which = word_text (name_in files which) which

abbrev pub file_text : Caller → Which → List ℕ
file_text Call which = file_name which
file_text NoWords which = codes "sample " ++ file_name which
file_text (Words engine values) which = named_text values which

abbrev pub advice : Caller → Which → ClaimCause → List ℕ
advice (Words engine values) which Changed = codes "; download it again, or pass all four files by their own options"
advice (Words engine values) which cause = codes "; " ++ remedy_text
advice _ which cause = []

-- the text with a name
abbrev pub operand_text : List ℕ → List ℕ
operand_text name = if bytes_eq name (codes "-") then codes "standard input" else one_line name

-- the input, and the output
abbrev pub input_text : Caller → Option (Bor (List ℕ)) → List ℕ
input_text Call None = codes "the input"
input_text _ None = codes "standard input"
input_text _ (Some name) = operand_text name.now

abbrev pub output_text : Caller → List ℕ
output_text Call = codes "the output"
output_text _ = codes "standard output"

abbrev pub input_of : Message → List ℕ
input_of m = input_text m.caller m.text

-- the most bytes of a paragraph, if the caller is the program
abbrev pub limit_of_engine : Engine → Option ℕ
limit_of_engine (Mark limit) = Some limit
limit_of_engine (Show limit) = Some limit
limit_of_engine (Segment limit) = Some limit
limit_of_engine (Chunk limit sizes texts) = Some limit
limit_of_engine (Replay kinds) = None

abbrev pub limit_of : Caller → Option ℕ
limit_of Call = None
limit_of NoWords = Some default_limit
limit_of (Words engine values) = limit_of_engine engine

-- the greatest limit cannot be raised
abbrev pub rest_of_limit : ℕ → List ℕ
rest_of_limit limit = if nat_lt limit greatest_limit
    then codes " bytes; --limit allows up to " ++ decimal greatest_limit
    else codes " bytes, the greatest limit"

abbrev pub than_limit : Option ℕ → List ℕ
than_limit None = codes "bytes than the limit"
than_limit (Some limit) = codes "than " ++ (decimal limit ++ rest_of_limit limit)

-- what to do with a text that may have another encoding
abbrev pub advice_of_encoding : Option Encoding → List ℕ
advice_of_encoding None = []
advice_of_encoding (Some Utf16) = codes "; it looks like UTF-16: convert it by iconv -f UTF-16 -t UTF-8"
advice_of_encoding (Some Latin1) = codes "; if it is Latin-1, convert it by iconv -f ISO-8859-1 -t UTF-8"

abbrev pub invalid_text : Option Encoding → List ℕ
invalid_text encoding = codes "invalid UTF-8" ++ advice_of_encoding encoding

-- what failed, that it failed, and why
abbrev pub failed_text : List ℕ → List ℕ → Option Reason → Option (List ℕ)
failed_text what did reason = Some what ++? (Some did ++? why_text reason)

abbrev pub unread_text : Message → Option (List ℕ)
unread_text m = failed_text (input_of m) (codes ": cannot be read") m.reason

abbrev pub too_long_text : Message → List ℕ
too_long_text m = input_of m ++ (codes ": more than " ++ (decimal longest_text ++ codes " bytes"))

abbrev pub at_byte : Message → ℕ → List ℕ
at_byte m at = input_of m ++ (codes ": byte " ++ (decimal at ++ codes ": "))

abbrev pub not_utf8_text : Message → ℕ → List ℕ
not_utf8_text m at = at_byte m at ++ invalid_text m.looks_like

abbrev pub paragraph_text : Message → ℕ → List ℕ
paragraph_text m start = at_byte m start
    ++ (codes "the paragraph that starts here has more " ++ than_limit (limit_of m.caller))

abbrev pub passage_text : Message → PassageFault → Option (List ℕ)
passage_text m passage.Limit =
    Some (codes "the limit of a paragraph must be 1 to " ++ (decimal greatest_limit ++ codes " bytes"))
passage_text m passage.Memory = Some (codes "out of memory")
passage_text m passage.Read = unread_text m
passage_text m (passage.NotUtf8 at) = Some (not_utf8_text m at)
passage_text m passage.TextTooLong = Some (too_long_text m)
passage_text m (passage.ParagraphTooLong start) = Some (paragraph_text m start)
passage_text m passage.Spent = Some (codes "an earlier call failed")

abbrev pub unwritten_text : Message → Option (List ℕ)
unwritten_text m = failed_text (output_text m.caller) (codes ": cannot be written") m.reason

-- the folder of a property file, if the arguments name one
abbrev pub folder_of_name : FileName → Option (List ℕ)
folder_of_name (Given name) = None
folder_of_name (InFolder folder) = Some folder.now

abbrev pub named_folder : PropertyValues → Which → Option (List ℕ)
named_folder BuiltIn which = None
named_folder (Files files) which = folder_of_name (name_in files which)

abbrev pub folder_of : Caller → Which → Option (List ℕ)
folder_of (Words engine values) which = named_folder values which
folder_of _ which = None

-- what to do if a file in a folder cannot be read; an archive is no folder
abbrev pub advice_of_folder : List ℕ → List ℕ
advice_of_folder folder = if ends_with nat_eq folder (codes ".zip") then codes "; unpack it, and pass the folder"
    else codes "; --unicode 15.0 needs no files"

abbrev pub advice_of : Option (List ℕ) → List ℕ
advice_of None = []
advice_of (Some folder) = advice_of_folder folder

abbrev pub advice_of_load : Caller → Which → List ℕ
advice_of_load caller which = advice_of (folder_of caller which)

abbrev pub unloaded_text : Message → Which → Option (List ℕ)
unloaded_text m which = Some (fault_text (cells.Load which) (file_text m.caller which))
    ++? (why_text m.reason ++? Some (advice_of_load m.caller which))

abbrev pub unpublished_text : Message → Which → ClaimCause → List ℕ
unpublished_text m which cause = fault_text (cells.Claim which cause) (file_text m.caller which)
    ++ advice m.caller which cause

-- the line of a fault
abbrev pub text_of_fault : Message → RunFault → Option (List ℕ)
text_of_fault m run.Open = unread_text m
text_of_fault m (run.Load which) = unloaded_text m which
text_of_fault m (run.Claim which cause) = Some (unpublished_text m which cause)
text_of_fault m (run.Tables fault) = Some (fault_text (cells.Tables fault) (file_text m.caller fault.file))
text_of_fault m (run.Cmd (cmd.Passage fault)) = passage_text m fault
text_of_fault m (run.Cmd cmd.Write) = unwritten_text m
text_of_fault m (run.Cmd cmd.Memory) = Some (codes "out of memory")
text_of_fault m (run.Replay replay.Read) = unread_text m
text_of_fault m (run.Replay replay.Write) = unwritten_text m
text_of_fault m (run.Replay replay.StreamTooLong) = Some (too_long_text m)
text_of_fault m (run.Replay replay.Memory) = Some (codes "out of memory")
text_of_fault m run.Memory = Some (codes "out of memory")

abbrev pub message_text : Message → Option (List ℕ)
message_text m = text_of_fault m m.fault

-- the message for a library call
abbrev pub of_call : RunFault → Message
of_call fault = record { fault = fault; caller = Call; text = None; reason = None; looks_like = None }

-- the texts of the parts of a message
abbrev pub text_of_name : Name → List ℕ
text_of_name (of_file.Plain which) = file_name which
text_of_name (of_file.Sample which) = codes "sample " ++ file_name which
text_of_name (of_file.Given given) = one_line given.now
text_of_name (of_file.InFolder folder which) = one_line folder.now ++ (47 ∷ name_in_database which)

abbrev pub text_of_input : Input → List ℕ
text_of_input of_input.OfCall = codes "the input"
text_of_input of_input.Standard = codes "standard input"
text_of_input (of_input.Named named) = one_line named.now

-- What the code's names of property values stand for.
use Rattle.lbk_args.specs.Task.{OwnFiles, all_files, files_of_names, no_file, some_files}
use Rattle.lbk_args.specs.declared.property_values.OwnFiles.{OwnFiles as OwnNames}
use Rattle.lbk_args.specs.declared.property_values.OwnFiles.TheVariants.{All, None, Some}

abbrev pub own_of : OwnNames → OwnFiles
own_of None = no_file
own_of Some = some_files
own_of (All names) = all_files (files_of_names names)

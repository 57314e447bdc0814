use Rattle.lbk_cmd.proofs.performing.perform_one.Goals as goal

pub returns-in-BuiltIn : goal.returns-in-BuiltIn
returns-in-BuiltIn g c = rw c.in-BuiltIn.is c.perform_by.ensures

pub returns-in-OfFiles : goal.returns-in-OfFiles
returns-in-OfFiles g c = rw c.in-OfFiles.is c.perform_by-in-OfFiles.ensures

-- What is told of words that are read and make no job.
use Rattle.std.specs.Prelude.{ℕ, List, [], ◌∷◌, ◌++◌, codes, decimal}
use Rattle.wf_model.specs.Limits.{most_workers}
use Rattle.wf_cli.specs.declared.words.mistake.ArgName.{ArgName}
use Rattle.wf_cli.specs.declared.words.mistake.ArgName.TheVariants as piece
use Rattle.wf_cli.specs.declared.words.mistake.UsageError.{UsageError}
use Rattle.wf_cli.specs.declared.words.mistake.UsageError.TheVariants as mistake

-- a piece of the command line as it is written there, or as help names it
abbrev pub piece_text : ArgName → List ℕ
piece_text piece.Command = codes "COMMAND"
piece_text piece.Rounds = codes "--rounds"
piece_text piece.Workers = codes "--workers"
piece_text piece.Task = codes "--task"
piece_text piece.Verdict = codes "--verdict"
piece_text piece.Least = codes "--least"
piece_text piece.Account = codes "--account"
piece_text piece.Branch = codes "--branch"
piece_text piece.Long = codes "--long"
piece_text piece.Proof = codes "--proof"
piece_text piece.Lrat = codes "--lrat"
piece_text piece.Kind = codes "KIND"
piece_text piece.Processes = codes "--processes"
piece_text piece.K = codes "--k"
piece_text piece.Values = codes "--values"
piece_text piece.Names = codes "--names"
piece_text piece.SetAgreement = codes "set-agreement"
piece_text piece.Renaming = codes "renaming"

-- what is wrong, and with which pieces
abbrev pub mistake_text : UsageError → List ℕ
mistake_text mistake.NotUtf8 = codes "one of the words is no UTF-8 text"
mistake_text (mistake.Missing what) = codes "the argument '" ++ (piece_text what ++ codes "' is missing")
mistake_text (mistake.Needs who what) =
    codes "'" ++ (piece_text who ++ (codes "' needs the argument '" ++ (piece_text what ++ codes "'")))
mistake_text (mistake.Neither one other) =
    codes "one of the arguments '" ++ (piece_text one ++ (codes "' and '" ++ (piece_text other ++ codes "' is needed")))
mistake_text (mistake.Conflict one other) =
    codes "the argument '" ++ (piece_text one ++ (codes "' cannot be used with '" ++ (piece_text other ++ codes "'")))
mistake_text mistake.UnknownKind = codes "a preset is 'set-agreement' or 'renaming'"
mistake_text mistake.Workers = codes "'--workers' takes a number from 1 to " ++ decimal most_workers

-- the line that tells it
abbrev pub mistake_line : UsageError → List ℕ
mistake_line s = codes "error: " ++ (mistake_text s ++ 10 ∷ [])

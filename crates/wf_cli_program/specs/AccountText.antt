-- The text of an account.
use Rattle.std.specs.Prelude.{ℕ, List, [], ◌∷◌, ◌++◌, codes, decimal}
use Rattle.wf_core.specs.declared.Account.{Account}

-- the line that tells an account
abbrev pub account_line : Account → List ℕ
account_line a =
    codes "account branches " ++ (decimal a.branches ++ (codes " searched " ++ (decimal a.searched
    ++ (codes " cut " ++ (decimal a.cut ++ 10 ∷ [])))))

-- What a page of bytes keeps.
use Rattle.std.specs.Prelude.{◌≡◌, ◌≤◌, ℕ, List, length}

-- how many bytes a page has room for
abbrev pub page_room : ℕ
page_room = 65536

pub record IsPage (filled : ℕ) (room : List ℕ) : Type 0 where
  pub long : length room ≡ page_room
  pub within : filled ≤ page_room

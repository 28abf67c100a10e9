-- What may come of opening a file, and what clauses see of what opens files.
use Rattle.std.specs.Prelude.{◌≡◌, ◌+◌, ◌-◌, ◌^◌, ◌<◌, ◌==◌, ℕ, List, Option, Some, None, if◌then◌else◌}
use Rattle.wf_base.specs.Streams.Seen.{Reading}
use Rattle.wf_cli.specs.declared.service.files.FileState.{FileState}
use Rattle.wf_cli.specs.declared.service.files.FileState.TheVariants.{Unopened, Unread, Sound}

-- it can't be opened, or it is, and then it has these bytes, where they are known
pub data Opening : Type 0 where
  refused : Opening
  opened : (left : Option (List ℕ)) → Opening

-- what may come of opening the file under a path
abbrev pub Opens : Type 1
Opens = List ℕ → Opening → Type 0

-- the files; how many were asked for; how many of these could not be opened; and the source of the
-- last, as it was left, where it was opened
pub record Filing (F : Type 0) : Type 0 where
  pub files : F
  pub asked : ℕ
  pub failures : ℕ
  pub kept : Option Reading

-- the opener can count one more file
abbrev pub CanAsk : {F : Type 0} → Filing F → Type 0
CanAsk opener = (opener.asked < 2 ^ 64 - 1) × (opener.failures < 2 ^ 64 - 1)

-- a source that nothing was read of yet
abbrev pub unread : Option (List ℕ) → Reading
unread left = record { left = left; failures = 0; taken = 0 }

-- one more file was asked for, and so many that could not be opened; this is its source as it was
-- left, where it was opened
abbrev pub after_asking : {F : Type 0} → Filing F → ℕ → Option Reading → Filing F
after_asking opener failed kept =
    record { files = opener.files; asked = opener.asked + 1; failures = opener.failures + failed; kept = kept }

-- how it went with a file whose source was left so, or that could not be opened
abbrev pub state_of : Option Reading → FileState
state_of None = Unopened
state_of (Some file) = if file.failures == 0 then Sound else Unread

-- the source of the file that was asked for last is kept
abbrev pub keeping : {F : Type 0} → Filing F → Reading → Filing F
keeping opener file = record { files = opener.files; asked = opener.asked; failures = opener.failures; kept = Some file }

-- one more file was asked for: it was opened, and nothing was read of it yet, or it can't be opened
abbrev pub AsksFor : {F : Type 0} → (Opening → Type 0) → Filing F → Filing F → Option Reading → Type 0
AsksFor comes old new (Some file) =
    (left : Option (List ℕ)) × comes (opened left) × (file ≡ unread left) × (new ≡ after_asking old 0 None)
AsksFor comes old new None = comes refused × (new ≡ after_asking old 1 None)

-- Texts that are added piece by piece.
use Rattle.std.proofs.Common.{◌≡◌, ℕ, List, ◌++◌, Result, Ok, Err, OnOk, ap, ◌∙◌, append_assoc}

-- from a text to another one by this piece behind it
pub record Adds (t t' piece : List ℕ) : Type 0 where
  pub is : t' ≡ t ++ piece

-- the same, if a call was no error
pub record AddsOn {T E : Type 0} (r : Result T E) (t t' piece : List ℕ) : Type 0 where
  pub is : OnOk r (t' ≡ t ++ piece)

pub adds : (t t' piece : List ℕ) → t' ≡ t ++ piece → Adds t t' piece
adds t t' piece h = record { is = h }

pub adds_on : {T E : Type 0} (r : Result T E) (t t' piece : List ℕ) → OnOk r (t' ≡ t ++ piece) → AddsOn r t t' piece
adds_on r t t' piece h = record { is = h }

joined : (t t' t'' a rest : List ℕ) → t' ≡ t ++ a → t'' ≡ t' ++ rest → t'' ≡ t ++ (a ++ rest)
joined t t' t'' a rest first second = second ∙ ap (λ x. x ++ rest) first ∙ append_assoc t a rest

-- a piece, and then what comes behind it
pub plus : {t t' t'' a rest : List ℕ} → Adds t t' a → Adds t' t'' rest → Adds t t'' (a ++ rest)
plus {t = t} {t' = t'} {t'' = t''} {a = a} {rest = rest} first second = record { is = joined t t' t'' a rest first.is second.is }

pub plus_on : {T E : Type 0} {r : Result T E} {t t' t'' a rest : List ℕ} → Adds t t' a → AddsOn r t' t'' rest → AddsOn r t t'' (a ++ rest)
plus_on {r = Ok x} {t = t} {t' = t'} {t'' = t''} {a = a} {rest = rest} first second = record { is = joined t t' t'' a rest first.is second.is }
plus_on {r = Err e} first second = record { is = tt }

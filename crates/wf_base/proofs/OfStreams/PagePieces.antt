-- A text that is put on a page piece by piece.
use Rattle.std.proofs.Common.{◌≡◌, ℕ, ◌+◌, List, [], ◌++◌, length, take, Result, Ok, Err, IsErr, refl, sym, ap, ◌∙◌, subst, arith, append_assoc, append-nil, length-append}
use Rattle.std.proofs.Math.Seq.{take-append-add}
use Rattle.std.proofs.lemmas.List.{take-append-le}
use Rattle.std.proofs.lemmas.Bool.{false≢true}
use Rattle.std.proofs.KnownBytes.{Appends-nil, Appends-trans}
use Rattle.wf_base.specs.Streams.Seen.{Writing}
use Rattle.wf_base.specs.Streams.Ends.{CanWrite}
use Rattle.wf_base.specs.Streams.Texts.{Took, TookBeginning, SendsText, WritesText, PutsText}
use Rattle.wf_base.specs.declared.streams.sink.WriteFault.{WriteFault}

-- bytes that a sink took, and then more, with its failures
pub Took-then : (a b c : Writing) (xs ys : List ℕ) (failed : ℕ) → Took a b xs 0 → Took b c ys failed → Took a c (xs ++ ys) failed
Took-then a b c xs ys failed first second =
    record { bytes_are = Appends-trans _ _ _ _ _ first.bytes_are second.bytes_are; failures = omega (arith, first.failures, second.failures) }

-- a beginning of what came after other bytes is one of both together
pub beginning-then : (a b c : Writing) (xs ys : List ℕ) → Took a b xs 0 → TookBeginning b c ys → TookBeginning a c (xs ++ ys)
beginning-then a b c xs ys first (n, within, second) = (
  length xs + n,
  omega (arith, within, length-append xs ys),
  subst (λ bs. Took a c bs 1) (sym (take-append-add xs ys n)) (Took-then a b c xs (take n ys) 1 first second),
)

-- a beginning of a text is one of a longer text
pub beginning-longer : (a b : Writing) (xs ys : List ℕ) → TookBeginning a b xs → TookBeginning a b (xs ++ ys)
beginning-longer a b xs ys (n, within, took) =
    (n, omega (arith, within, length-append xs ys), subst (λ bs. Took a b bs 1) (sym (take-append-le n xs ys within)) took)

-- of a text, all but the rest was put: what the sink took and what the page holds, and then the
-- rest, are what the page held at first and the text
pub record IsPut (old : Writing) (page : List ℕ) (new : Writing) (page' : List ℕ) (text rest : List ℕ) : Type 0 where
  pub taken : List ℕ
  pub took : Took old new taken 0
  pub together : taken ++ (page' ++ rest) ≡ page ++ text

pub begun : (a : Writing) (page text : List ℕ) → IsPut a page a page text text
begun a page text = record { taken = []; took = record { bytes_are = Appends-nil a.held; failures = omega arith }; together = refl }

-- the next piece was put
pub went_on : (a b c : Writing) (page page' page'' text piece rest rest' : List ℕ) → IsPut a page b page' text rest
    → PutsText b page' c page'' piece (Ok tt) → rest ≡ piece ++ rest' → IsPut a page c page'' text rest'
went_on a b c page page' page'' text piece rest rest' before (taken, took, together) next = record {
  taken = before.taken ++ taken;
  took = Took-then a b c before.taken taken 0 before.took took;
  together =
      append_assoc before.taken taken (page'' ++ rest')
      ∙ ap (λ bs. before.taken ++ bs) (sym (append_assoc taken page'' rest') ∙ ap (λ bs. bs ++ rest') together ∙ append_assoc page' piece rest' ∙ ap (λ bs. page' ++ bs) (sym next))
      ∙ before.together;
}

-- the sink took a beginning of what the page held and the next piece
pub begun_of : (a b c : Writing) (page page' text piece rest rest' : List ℕ) → IsPut a page b page' text rest
    → TookBeginning b c (page' ++ piece) → rest ≡ piece ++ rest' → TookBeginning a c (page ++ text)
begun_of a b c page page' text piece rest rest' before beginning next =
    subst (TookBeginning a c) (ap (λ bs. before.taken ++ bs) (append_assoc page' piece rest' ∙ ap (λ bs. page' ++ bs) (sym next)) ∙ before.together)
    (beginning-then a b c before.taken ((page' ++ piece) ++ rest') before.took (beginning-longer b c (page' ++ piece) rest' beginning))

-- the next piece was not put whole, and that is answered
pub stopped : (a b c : Writing) (page page' page'' text piece rest rest' : List ℕ) (result : Result (Unit {0}) WriteFault) → IsErr result → IsPut a page b page' text rest
    → TookBeginning b c (page' ++ piece) → rest ≡ piece ++ rest' → PutsText a page c page'' text result
stopped a b c page page' page'' text piece rest rest' (Ok tt) failed before beginning next = absurd (false≢true failed)
stopped a b c page page' page'' text piece rest rest' (Err fault) failed before beginning next = begun_of a b c page page' text piece rest rest' before beginning next

-- nothing is left to put
pub all_put : (a b : Writing) (page page' text rest : List ℕ) → IsPut a page b page' text rest → rest ≡ [] → PutsText a page b page' text (Ok tt)
all_put a b page page' text rest before none =
    (before.taken, before.took, ap (λ bs. before.taken ++ bs) (sym (append-nil page') ∙ ap (λ bs. page' ++ bs) (sym none)) ∙ before.together)

-- the last piece is put, or not
pub last_put : (a b c : Writing) (page page' page'' text piece rest : List ℕ) (result : Result (Unit {0}) WriteFault) → IsPut a page b page' text rest
    → PutsText b page' c page'' piece result → rest ≡ piece → PutsText a page c page'' text result
last_put a b c page page' page'' text piece rest (Ok tt) before put last =
    all_put a c page page'' text [] (went_on a b c page page' page'' text piece rest [] before put (last ∙ sym (append-nil piece))) refl
last_put a b c page page' page'' text piece rest (Err fault) before put last =
    begun_of a b c page page' text piece rest [] before put (last ∙ sym (append-nil piece))

-- what the page holds at the end is passed on, or a beginning of it
pub passed_on : (a b c : Writing) (page text rest : List ℕ) (result : Result (Unit {0}) WriteFault) → IsPut a [] b page text rest → rest ≡ []
    → WritesText b c page result → WritesText a c text result
passed_on a b c page text rest (Ok done) before none wrote =
    let whole = ap (λ bs. before.taken ++ bs) (sym (append-nil page) ∙ ap (λ bs. page ++ bs) (sym none)) ∙ before.together in
    record { took = subst (λ bs. Took a c bs 0) whole (Took-then a b c before.taken page 0 before.took wrote.took); flushed = wrote.flushed }
passed_on a b c page text rest (Err fault) before none beginning =
    let whole = ap (λ bs. before.taken ++ bs) (sym (append-nil page) ∙ ap (λ bs. page ++ bs) (sym none)) ∙ before.together in
    subst (TookBeginning a c) whole (beginning-then a b c before.taken page before.took beginning)

-- the next piece was not put whole, and nothing more is written
pub left_off : (a b c : Writing) (page' text piece rest rest' : List ℕ) (result : Result (Unit {0}) WriteFault) → IsErr result → IsPut a [] b page' text rest
    → TookBeginning b c (page' ++ piece) → rest ≡ piece ++ rest' → WritesText a c text result
left_off a b c page' text piece rest rest' (Ok tt) failed before beginning next = absurd (false≢true failed)
left_off a b c page' text piece rest rest' (Err fault) failed before beginning next = begun_of a b c [] page' text piece rest rest' before beginning next

pub can_go_on : (a b : Writing) (page page' text rest : List ℕ) → CanWrite a → IsPut a page b page' text rest → CanWrite b
can_go_on a b page page' text rest room before = omega (arith, room, before.took.failures)

-- the page was passed on, and then a text that it has no room for, or a beginning of it
pub sent_after : (a b c : Writing) (page text : List ℕ) (result : Result (Unit {0}) WriteFault) → Took a b page 0 → SendsText b c text result → PutsText a page c [] text result
sent_after a b c page text (Ok tt) first second = (page ++ text, Took-then a b c page text 0 first second, append-nil (page ++ text))
sent_after a b c page text (Err fault) first second = beginning-then a b c page text first second

-- What is given to a window, piece by piece.
use Rattle.std.proofs.Common.{◌≡◌, ◌<◌, ◌⊎◌, ℕ, ◌+◌, ◌-◌, ◌++◌, Bool, true, false, cond, List, [], length, inl, inr, Ok, Err, refl, sym, ap, ◌∙◌, subst, arith, append_assoc, append-nil, length-append}
use Rattle.wf_base.specs.Streams.Seen.{Reading}
use Rattle.wf_base.specs.declared.streams.source.ReadFault.{ReadFault}
use Rattle.wf_base.specs.declared.streams.source.ReadFault.TheVariants.{OutOfMemory}
use Rattle.wf_report.specs.Windows.{Ahead, CanGive, Collects, Drains, Fills, Gives, IsFront, IsShort, Seeks, failed_by, without_pending}
use Rattle.wf_report.specs.declared.window.AtFront.{AtFront}
use Rattle.wf_report.proofs.Chains.{gives_nothing, gives_on}

-- a call more, unless the end was met
abbrev pub call_left : Bool → ℕ
call_left ended = cond ended 0 1

-- ---- up to a line

-- bytes were read so far behind those that were there
pub record IsGrown (old new : Reading) (w w' : Ahead) : Type 0 where
  pub bytes : List ℕ
  pub gives : Gives old new w w' bytes 0
  pub pending : w'.pending ≡ w.pending ++ bytes
  pub number : w'.number ≡ w.number
  pub can : CanGive new w'

-- how many calls there may be up to a line
abbrev pub calls_to_line : Ahead → ℕ
calls_to_line w = (22 - length w.pending) + call_left w.ended

pub not_grown : (s : Reading) (w : Ahead) → CanGive s w → IsGrown s s w w
not_grown s w can = record { bytes = []; gives = gives_nothing s w w refl refl refl; pending = sym (append-nil w.pending); number = refl; can = can }

module _ (a b c : Reading) (w w1 w2 : Ahead) (before : IsGrown a b w w1) where
  pub grown_on : Fills b c w1 w2 (Ok tt) → CanGive c w2 → IsGrown a c w w2
  grown_on (bytes, gives, (pending, number, met)) can = record {
    bytes = before.bytes ++ bytes;
    gives = gives_on a b c w w1 w2 before.bytes bytes 0 before.gives gives;
    pending = pending ∙ ap (λ t. t ++ bytes) before.pending ∙ append_assoc w.pending before.bytes bytes;
    number = number ∙ before.number;
    can = can;
  }

  pub grown_found : (at : AtFront) → IsFront at w1 → Seeks a b w w1 (Ok at)
  grown_found at front = (before.bytes, before.gives, (before.pending, before.number, front))

  pub grown_cut : (e : ReadFault) → IsShort w1 → Fills b c w1 w2 (Err e) → Seeks a c w w2 (Err e)
  grown_cut e short (bytes, gives, (cut, none)) =
      let size = ap length before.pending in
      let first = length-append w.pending before.bytes in
      let both = length-append before.bytes bytes in
      let all = length-append w.pending (before.bytes ++ bytes) in
      let empty = ap length none in
      let few = short.few in
      (before.bytes ++ bytes, gives_on a b c w w1 w2 before.bytes bytes (failed_by e) before.gives gives, (cut, omega (arith, size, first, both, all, empty, few)))

  pub fewer_calls : IsShort w1 → Fills b c w1 w2 (Ok tt) → calls_to_line w2 < calls_to_line w1
  fewer_calls short (bytes, gives, (pending, number, met)) = by_end met
    where
      size : length w2.pending ≡ length w1.pending + length bytes
      size = ap length pending ∙ length-append w1.pending bytes

      by_end : ((bytes ≡ []) × (w2.ended ≡ true)) ⊎ ((0 < length bytes) × (w2.ended ≡ false)) → calls_to_line w2 < calls_to_line w1
      by_end (inl (none, end)) =
          let long = size in
          let empty = ap length none in
          let before = ap call_left short.going in
          let after = ap call_left end in
          let few = short.few in
          omega (arith, long, empty, before, after, few)
      by_end (inr (some, going)) =
          let long = size in
          let before = ap call_left short.going in
          let after = ap call_left going in
          let few = short.few in
          omega (arith, long, some, before, after, few)

-- ---- up to the end

-- bytes were read so far
pub record IsDraining (old new : Reading) (w w' : Ahead) : Type 0 where
  pub bytes : List ℕ
  pub gives : Gives old new w w' bytes 0
  pub can : CanGive new w'

abbrev pub calls_to_end : Ahead → ℕ
calls_to_end w = (w.most + 1 - w.given) + call_left w.ended

pub not_drained : (s : Reading) (w : Ahead) → CanGive s w → IsDraining s s w w
not_drained s w can = record { bytes = []; gives = gives_nothing s w w refl refl refl; can = can }

-- all that was there is passed
pub can_without : (s : Reading) (w : Ahead) → CanGive s w → CanGive s (without_pending w)
can_without s w can = record { failures = can.failures; taken = can.taken; bounded = can.bounded; few = can.few; end = can.end }

-- each call comes nearer to the end
nearer : (b c : Reading) (w1 w2 : Ahead) → w1.ended ≡ false → Fills b c w1 w2 (Ok tt) → CanGive c w2 → calls_to_end w2 < calls_to_end w1
nearer b c w1 w2 going (bytes, gives, (pending, number, met)) can = by_end met
  where
    by_end : ((bytes ≡ []) × (w2.ended ≡ true)) ⊎ ((0 < length bytes) × (w2.ended ≡ false)) → calls_to_end w2 < calls_to_end w1
    by_end (inl (none, end)) =
        let given = gives.given in
        let most = gives.most in
        let empty = ap length none in
        let before = ap call_left going in
        let after = ap call_left end in
        omega (arith, given, most, empty, before, after)
    by_end (inr (some, still)) =
        let given = gives.given in
        let most = gives.most in
        let before = ap call_left going in
        let after = ap call_left still in
        let few = can.few in
        omega (arith, given, most, some, before, after, few)

module _ (a b c : Reading) (w w1 w2 : Ahead) (before : IsDraining a b w w1) where
  emptied : Gives a b w (without_pending w1) before.bytes 0
  emptied = record { gave = before.gives.gave; given = before.gives.given; most = before.gives.most; still = before.gives.still; few = before.gives.few; end = before.gives.end }

  pub drained_on : Fills b c (without_pending w1) w2 (Ok tt) → CanGive c w2 → IsDraining a c w w2
  drained_on (bytes, gives, filled) can = record { bytes = before.bytes ++ bytes; gives = gives_on a b c w (without_pending w1) w2 before.bytes bytes 0 emptied gives; can = can }

  pub drained : w1.ended ≡ true → Drains a b w w1 (Ok tt)
  drained end = (before.bytes, before.gives, end, before.can)

  pub drained_cut : (e : ReadFault) → Fills b c (without_pending w1) w2 (Err e) → Drains a c w w2 (Err e)
  drained_cut e (bytes, gives, (cut, none)) = (before.bytes ++ bytes, gives_on a b c w (without_pending w1) w2 before.bytes bytes (failed_by e) emptied gives, cut, tt)

  pub nearer_end : w1.ended ≡ false → Fills b c (without_pending w1) w2 (Ok tt) → CanGive c w2 → calls_to_end w2 < calls_to_end w1
  nearer_end going filled can = nearer b c (without_pending w1) w2 going filled can

-- ---- the rest of a text

-- all that was given so far is in the text, and none of it is left in the window
pub record IsCollecting (old new : Reading) (w w' : Ahead) (text : List ℕ) : Type 0 where
  pub bytes : List ℕ
  pub gives : Gives old new w w' bytes 0
  pub text_is : text ≡ w.pending ++ bytes
  pub none : w'.pending ≡ []
  pub can : CanGive new w'

-- what was there is in the text
pub begun : (s : Reading) (w w' : Ahead) (text : List ℕ) → CanGive s w → w' ≡ without_pending w → text ≡ w.pending → IsCollecting s s w w' text
begun s w w' text can passed is = subst (λ w'. IsCollecting s s w w' text) (sym passed) (record {
  bytes = [];
  gives = gives_nothing s w (without_pending w) refl refl refl;
  text_is = is ∙ sym (append-nil w.pending);
  none = refl;
  can = can_without s w can;
})

module _ (a b c : Reading) (w w1 w2 : Ahead) (text : List ℕ) (before : IsCollecting a b w w1 text) where
  -- a piece more
  pub collected_on : (w3 : Ahead) (more : List ℕ) → Fills b c w1 w2 (Ok tt) → CanGive c w2 → w3 ≡ without_pending w2 → more ≡ text ++ w2.pending → IsCollecting a c w w3 more
  collected_on w3 more (bytes, gives, (pending, number, met)) can passed is = subst (λ w3. IsCollecting a c w w3 more) (sym passed) (record {
    bytes = before.bytes ++ bytes;
    gives = (
        let all = gives_on a b c w w1 w2 before.bytes bytes 0 before.gives gives in
        record { gave = all.gave; given = all.given; most = all.most; still = all.still; few = all.few; end = all.end });
    text_is = is ∙ (λ i. before.text_is i ++ (pending ∙ ap (λ t. t ++ bytes) before.none) i) ∙ append_assoc w.pending before.bytes bytes;
    none = refl;
    can = can_without c w2 can;
  })

  -- all was
  pub collected : w1.ended ≡ true → Collects a b w w1 (Ok text)
  collected end = (before.bytes, before.gives, (before.text_is, end), before.can)

  -- the text was not read on
  pub collected_cut : (e : ReadFault) → Fills b c w1 w2 (Err e) → Collects a c w w2 (Err e)
  collected_cut e (bytes, gives, (cut, none)) = (before.bytes ++ bytes, gives_on a b c w w1 w2 before.bytes bytes (failed_by e) before.gives gives, cut, tt)

  -- no memory was left for a piece
  pub collected_full : (w3 : Ahead) → Fills b c w1 w2 (Ok tt) → CanGive c w2 → w3 ≡ without_pending w2 → Collects a c w w3 (Err OutOfMemory)
  collected_full w3 (bytes, gives, (pending, number, met)) can passed = subst (λ w3. Collects a c w w3 (Err OutOfMemory)) (sym passed) (
    before.bytes ++ bytes,
    (
        let all = gives_on a b c w w1 w2 before.bytes bytes 0 before.gives gives in
        record { gave = all.gave; given = all.given; most = all.most; still = all.still; few = all.few; end = all.end }),
    can.few,
    tt,
  )

  pub nearer_rest : w1.ended ≡ false → (w3 : Ahead) → Fills b c w1 w2 (Ok tt) → CanGive c w2 → w3 ≡ without_pending w2 → calls_to_end w3 < calls_to_end w1
  nearer_rest going w3 filled can passed = subst (λ w. calls_to_end w < calls_to_end w1) (sym passed) (nearer b c w1 w2 going filled can)

-- no memory was left for what was there
pub not_begun : (s : Reading) (w w' : Ahead) → CanGive s w → w' ≡ without_pending w → Collects s s w w' (Err OutOfMemory)
not_begun s w w' can passed = subst (λ w'. Collects s s w w' (Err OutOfMemory)) (sym passed) ([], gives_nothing s w (without_pending w) refl refl refl, can.few, tt)

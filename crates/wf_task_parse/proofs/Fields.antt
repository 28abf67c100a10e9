-- Fields that take one member more, and what full fields stand for.
use Rattle.std.proofs.Common.{◌≡◌, ℕ, suc, ◌+◌, ◌≤◌, ◌==◌, Bool, true, false, is_some, List, map, Option, Some, None, option_map, Result, Ok, Err, Vec, Global, codes, refl, sym, ap, ◌∙◌, subst, arith, eq-eqb}
use Rattle.std.specs.Ordering.{nat_cmp, match_ordering}
use Rattle.std.specs.declared.cmp.Ordering.{Ordering}
use Rattle.std.specs.declared.cmp.Ordering.TheVariants.{Less, Equal, Greater}
use Rattle.std.specs.Cmp.Lexicographic.{slice_cmp}
use Rattle.std.specs.Result.{result_ok}
use Rattle.std.specs.Str.{bytes_eq}
use Rattle.std.proofs.lemmas.Bool.{false≢true}
use Rattle.std.proofs.lemmas.Slice.Eq.{bytes_eq-Decides}
use Rattle.json.specs.Token.{Token}
use Rattle.smallvec.specs.SmallVec.{SmallVec}
use Rattle.serde_json.specs.Data.{Data, null, boolean, number, string, array, object, Members, no_members, member, put}
use Rattle.serde_json.specs.Events.{members_len}
use Rattle.serde_json.specs.Find.{get_member, as_bool}
use Rattle.serde_json.proofs.Views.{get_member-put, get_member-put_other}
use Rattle.wf_task_parse.specs.declared.fault.Key.{Key}
use Rattle.wf_task_parse.specs.declared.fault.Key.TheVariants.{Version, FirstBlock, Processes, Symmetric, Inputs, Outputs, Delta}
use Rattle.wf_task_parse.specs.declared.fault.TaskFault.TheVariants as fault
use Rattle.wf_task_parse.specs.declared.draft.RawTask.{RawTask}
use Rattle.wf_task_parse.specs.declared.shape.DeltaEntry.{DeltaEntry}
use Rattle.wf_task_parse.specs.declared.shape.ListedSimplex.{ListedSimplex}
use Rattle.wf_task_parse.specs.declared.members.EntryFields.{EntryFields}
use Rattle.wf_task_parse.specs.declared.members.RawTaskFields.{RawTaskFields}
use Rattle.wf_task_parse.specs.Shape.{whole_of, each, list_of, simplex_of, tuples_of, entry_of}
use Rattle.wf_task_parse.specs.RawTask.{or_fault, value_at, least_block_at, key_count, placed, list_at, draft_of}
use Rattle.wf_task_parse.specs.DraftSeen.{pairs_seen, entry_seen, draft_seen}
use Rattle.wf_task_parse.specs.Plain.{data_at, Takes, Stands, held, Fills, Adds}
use Rattle.wf_task_parse.specs.Members.{HoldEntry, HoldDraft}
use Rattle.wf_task_parse.proofs.Lists.{numbers_seen}
use Rattle.wf_task_parse.proofs.ConvertedValues.{converted_some}

abbrev pick : {A : Type 0} → A → Option A → A
pick a None = a
pick a (Some b) = b

abbrev flat : {A : Type 0} → Option A → Option (Option A) → Option A
flat o None = o
flat o (Some p) = p

-- ---- one more member

apart : (q k : List ℕ) → bytes_eq q k ≡ false → q ≡ k → ⊥
apart q k differ same = let is : bytes_eq q k ≡ true = (bytes_eq-Decides q k).1 same in false≢true (sym differ ∙ is)

absent : {X : Type 0} (f : Data → Option X) (found : Option Data) → option_map f found ≡ None → found ≡ None
absent f None e = refl
absent f (Some d) e = cc

members_len-put : (k : List ℕ) (d : Data) (ms : Members) → get_member k ms ≡ None → members_len (put k d ms) ≡ suc (members_len ms)
members_len-put k d no_members none = refl
members_len-put k d (member l e ms) none = by (slice_cmp nat_cmp k l) (λ g. members_len-put k d ms g) none
  where
    by : (o : Ordering) → (get_member k ms ≡ None → members_len (put k d ms) ≡ suc (members_len ms)) → match_ordering o (get_member k ms) (Some e) (get_member k ms) ≡ None
        → members_len (match_ordering o (member k d (member l e ms)) (member l d ms) (member l e (put k d ms))) ≡ suc (suc (members_len ms))
    by Less deeper g = refl
    by Equal deeper g = cc
    by Greater deeper g = ap suc (deeper g)

-- what a field that was filled tells of the members with one more
record Filled {T X : Type 0} (f : Data → Option X) (seen : T → X) (before after : Option T) (d : Data) : Type 0 where
  more : (k : List ℕ) (ms : Members) → Stands f seen k (put k d ms) after
  longer : (k : List ℕ) (ms : Members) → Stands f seen k ms before → members_len (put k d ms) ≡ suc (members_len ms)
  none : held before ≡ 0
  one : held after ≡ 1

fill : {T X : Type 0} (f : Data → Option X) (seen : T → X) (deep : ℕ) (before after : Option T) (old new : List Token) → Fills f seen deep before old after new
    → (depth : ℕ) → deep ≤ depth → (d : Data) × (data_at depth old ≡ Some (d, new)) × Filled f seen before after d
fill f seen deep before None old new t depth enough = absurd t.1
fill f seen deep (Some y) (Some x) old new t depth enough = let never = t.0 in cc
fill f seen deep None (Some x) old new t depth enough =
    let d = converted_some f (data_at depth old) (seen x) new (t.1 depth enough) in (
      d.0,
      d.1,
      record {
        more = λ k ms. ap (option_map f) (get_member-put k d.0 ms) ∙ ap Some d.2;
        longer = λ k ms h. members_len-put k d.0 ms (absent f (get_member k ms) h);
        none = refl;
        one = refl;
      },
    )

-- what stands under another key stays
other : {T X : Type 0} (f : Data → Option X) (seen : T → X) (q k : List ℕ) (d : Data) (ms : Members) (field : Option T) → bytes_eq q k ≡ false → Stands f seen q ms field → Stands f seen q (put k d ms) field
other f seen q k d ms field differ h = ap (option_map f) (get_member-put_other q k d ms (apart q k differ)) ∙ h

-- ---- the fields of an entry

pub entry-input : (s : EntryFields) (field : Option ListedSimplex) (old new : List Token) (key : List ℕ) → key ≡ codes "in" → Fills simplex_of pairs_seen 2 s.input old field new
    → Adds HoldEntry 2 key s old (record { input = field; tuples = s.tuples }) new
entry-input s field old new key is t depth enough =
    let k = codes "in" in
    let d = fill simplex_of pairs_seen 2 s.input field old new t depth (omega (arith, enough)) in (
      d.0,
      d.1,
      λ ms h. subst (λ name. HoldEntry (record { input = field; tuples = s.tuples }) (put name d.0 ms)) (sym is) (record {
        input = d.2.more k ms;
        tuples = other tuples_of (λ v. map (λ t. t.items) v.items) (codes "out") k d.0 ms s.tuples refl h.tuples;
        count = omega (arith, d.2.longer k ms h.input, h.count, d.2.none, d.2.one);
      }),
    )

pub entry-tuples : (s : EntryFields) (field : Option (Vec (SmallVec ℕ) Global)) (old new : List Token) (key : List ℕ) → key ≡ codes "out" → Fills tuples_of (λ v. map (λ t. t.items) v.items) 2 s.tuples old field new
    → Adds HoldEntry 2 key s old (record { input = s.input; tuples = field }) new
entry-tuples s field old new key is t depth enough =
    let k = codes "out" in
    let d = fill tuples_of (λ v. map (λ t. t.items) v.items) 2 s.tuples field old new t depth (omega (arith, enough)) in (
      d.0,
      d.1,
      λ ms h. subst (λ name. HoldEntry (record { input = s.input; tuples = field }) (put name d.0 ms)) (sym is) (record {
        input = other simplex_of pairs_seen (codes "in") k d.0 ms s.input refl h.input;
        tuples = d.2.more k ms;
        count = omega (arith, d.2.longer k ms h.tuples, h.count, d.2.none, d.2.one);
      }),
    )

-- numbers are seen as they are
pub tuples_seen : (before after : Option (Vec (SmallVec ℕ) Global)) (old new : List Token) → Fills tuples_of (λ v. map (λ t. map (λ n. n) t.items) v.items) 2 before old after new
    → Fills tuples_of (λ v. map (λ t. t.items) v.items) 2 before old after new
tuples_seen before None old new t = absurd t.1
tuples_seen before (Some v) old new t = (t.0, subst (λ xs. Takes tuples_of 2 old xs new) (numbers_seen v.items) t.1)

-- ---- the fields of a draft

pub draft-version : (s : RawTaskFields) (field : Option ℕ) (old new : List Token) (key : List ℕ) → key ≡ codes "version" → Fills whole_of (λ n. n) 0 s.version old field new
    → Adds HoldDraft 4 key s old (record { version = field; least_block = s.least_block; processes = s.processes; symmetric = s.symmetric; inputs = s.inputs; outputs = s.outputs; delta = s.delta }) new
draft-version s field old new key is t depth enough =
    let k = codes "version" in
    let d = fill whole_of (λ n. n) 0 s.version field old new t depth (omega (arith, enough)) in (
      d.0,
      d.1,
      λ ms h. subst (λ name. HoldDraft (record { version = field; least_block = s.least_block; processes = s.processes; symmetric = s.symmetric; inputs = s.inputs; outputs = s.outputs; delta = s.delta }) (put name d.0 ms)) (sym is) (record {
        version = d.2.more k ms;
        least_block = other whole_of (λ n. n) (codes "first_block") k d.0 ms s.least_block refl h.least_block;
        processes = other whole_of (λ n. n) (codes "processes") k d.0 ms s.processes refl h.processes;
        symmetric = other as_bool (λ b. b) (codes "symmetric") k d.0 ms s.symmetric refl h.symmetric;
        inputs = other (list_of simplex_of) (λ v. map pairs_seen v.items) (codes "inputs") k d.0 ms s.inputs refl h.inputs;
        outputs = other (list_of simplex_of) (λ v. map pairs_seen v.items) (codes "outputs") k d.0 ms s.outputs refl h.outputs;
        delta = other (list_of entry_of) (λ v. map entry_seen v.items) (codes "delta") k d.0 ms s.delta refl h.delta;
        count = omega (arith, d.2.longer k ms h.version, h.count, d.2.none, d.2.one);
      }),
    )

pub draft-least_block : (s : RawTaskFields) (field : Option ℕ) (old new : List Token) (key : List ℕ) → key ≡ codes "first_block" → Fills whole_of (λ n. n) 0 s.least_block old field new
    → Adds HoldDraft 4 key s old (record { version = s.version; least_block = field; processes = s.processes; symmetric = s.symmetric; inputs = s.inputs; outputs = s.outputs; delta = s.delta }) new
draft-least_block s field old new key is t depth enough =
    let k = codes "first_block" in
    let d = fill whole_of (λ n. n) 0 s.least_block field old new t depth (omega (arith, enough)) in (
      d.0,
      d.1,
      λ ms h. subst (λ name. HoldDraft (record { version = s.version; least_block = field; processes = s.processes; symmetric = s.symmetric; inputs = s.inputs; outputs = s.outputs; delta = s.delta }) (put name d.0 ms)) (sym is) (record {
        version = other whole_of (λ n. n) (codes "version") k d.0 ms s.version refl h.version;
        least_block = d.2.more k ms;
        processes = other whole_of (λ n. n) (codes "processes") k d.0 ms s.processes refl h.processes;
        symmetric = other as_bool (λ b. b) (codes "symmetric") k d.0 ms s.symmetric refl h.symmetric;
        inputs = other (list_of simplex_of) (λ v. map pairs_seen v.items) (codes "inputs") k d.0 ms s.inputs refl h.inputs;
        outputs = other (list_of simplex_of) (λ v. map pairs_seen v.items) (codes "outputs") k d.0 ms s.outputs refl h.outputs;
        delta = other (list_of entry_of) (λ v. map entry_seen v.items) (codes "delta") k d.0 ms s.delta refl h.delta;
        count = omega (arith, d.2.longer k ms h.least_block, h.count, d.2.none, d.2.one);
      }),
    )

pub draft-processes : (s : RawTaskFields) (field : Option ℕ) (old new : List Token) (key : List ℕ) → key ≡ codes "processes" → Fills whole_of (λ n. n) 0 s.processes old field new
    → Adds HoldDraft 4 key s old (record { version = s.version; least_block = s.least_block; processes = field; symmetric = s.symmetric; inputs = s.inputs; outputs = s.outputs; delta = s.delta }) new
draft-processes s field old new key is t depth enough =
    let k = codes "processes" in
    let d = fill whole_of (λ n. n) 0 s.processes field old new t depth (omega (arith, enough)) in (
      d.0,
      d.1,
      λ ms h. subst (λ name. HoldDraft (record { version = s.version; least_block = s.least_block; processes = field; symmetric = s.symmetric; inputs = s.inputs; outputs = s.outputs; delta = s.delta }) (put name d.0 ms)) (sym is) (record {
        version = other whole_of (λ n. n) (codes "version") k d.0 ms s.version refl h.version;
        least_block = other whole_of (λ n. n) (codes "first_block") k d.0 ms s.least_block refl h.least_block;
        processes = d.2.more k ms;
        symmetric = other as_bool (λ b. b) (codes "symmetric") k d.0 ms s.symmetric refl h.symmetric;
        inputs = other (list_of simplex_of) (λ v. map pairs_seen v.items) (codes "inputs") k d.0 ms s.inputs refl h.inputs;
        outputs = other (list_of simplex_of) (λ v. map pairs_seen v.items) (codes "outputs") k d.0 ms s.outputs refl h.outputs;
        delta = other (list_of entry_of) (λ v. map entry_seen v.items) (codes "delta") k d.0 ms s.delta refl h.delta;
        count = omega (arith, d.2.longer k ms h.processes, h.count, d.2.none, d.2.one);
      }),
    )

pub draft-symmetric : (s : RawTaskFields) (field : Option Bool) (old new : List Token) (key : List ℕ) → key ≡ codes "symmetric" → Fills as_bool (λ b. b) 0 s.symmetric old field new
    → Adds HoldDraft 4 key s old (record { version = s.version; least_block = s.least_block; processes = s.processes; symmetric = field; inputs = s.inputs; outputs = s.outputs; delta = s.delta }) new
draft-symmetric s field old new key is t depth enough =
    let k = codes "symmetric" in
    let d = fill as_bool (λ b. b) 0 s.symmetric field old new t depth (omega (arith, enough)) in (
      d.0,
      d.1,
      λ ms h. subst (λ name. HoldDraft (record { version = s.version; least_block = s.least_block; processes = s.processes; symmetric = field; inputs = s.inputs; outputs = s.outputs; delta = s.delta }) (put name d.0 ms)) (sym is) (record {
        version = other whole_of (λ n. n) (codes "version") k d.0 ms s.version refl h.version;
        least_block = other whole_of (λ n. n) (codes "first_block") k d.0 ms s.least_block refl h.least_block;
        processes = other whole_of (λ n. n) (codes "processes") k d.0 ms s.processes refl h.processes;
        symmetric = d.2.more k ms;
        inputs = other (list_of simplex_of) (λ v. map pairs_seen v.items) (codes "inputs") k d.0 ms s.inputs refl h.inputs;
        outputs = other (list_of simplex_of) (λ v. map pairs_seen v.items) (codes "outputs") k d.0 ms s.outputs refl h.outputs;
        delta = other (list_of entry_of) (λ v. map entry_seen v.items) (codes "delta") k d.0 ms s.delta refl h.delta;
        count = omega (arith, d.2.longer k ms h.symmetric, h.count, d.2.none, d.2.one);
      }),
    )

pub draft-inputs : (s : RawTaskFields) (field : Option (Vec ListedSimplex Global)) (old new : List Token) (key : List ℕ) → key ≡ codes "inputs" → Fills (list_of simplex_of) (λ v. map pairs_seen v.items) 3 s.inputs old field new
    → Adds HoldDraft 4 key s old (record { version = s.version; least_block = s.least_block; processes = s.processes; symmetric = s.symmetric; inputs = field; outputs = s.outputs; delta = s.delta }) new
draft-inputs s field old new key is t depth enough =
    let k = codes "inputs" in
    let d = fill (list_of simplex_of) (λ v. map pairs_seen v.items) 3 s.inputs field old new t depth (omega (arith, enough)) in (
      d.0,
      d.1,
      λ ms h. subst (λ name. HoldDraft (record { version = s.version; least_block = s.least_block; processes = s.processes; symmetric = s.symmetric; inputs = field; outputs = s.outputs; delta = s.delta }) (put name d.0 ms)) (sym is) (record {
        version = other whole_of (λ n. n) (codes "version") k d.0 ms s.version refl h.version;
        least_block = other whole_of (λ n. n) (codes "first_block") k d.0 ms s.least_block refl h.least_block;
        processes = other whole_of (λ n. n) (codes "processes") k d.0 ms s.processes refl h.processes;
        symmetric = other as_bool (λ b. b) (codes "symmetric") k d.0 ms s.symmetric refl h.symmetric;
        inputs = d.2.more k ms;
        outputs = other (list_of simplex_of) (λ v. map pairs_seen v.items) (codes "outputs") k d.0 ms s.outputs refl h.outputs;
        delta = other (list_of entry_of) (λ v. map entry_seen v.items) (codes "delta") k d.0 ms s.delta refl h.delta;
        count = omega (arith, d.2.longer k ms h.inputs, h.count, d.2.none, d.2.one);
      }),
    )

pub draft-outputs : (s : RawTaskFields) (field : Option (Vec ListedSimplex Global)) (old new : List Token) (key : List ℕ) → key ≡ codes "outputs" → Fills (list_of simplex_of) (λ v. map pairs_seen v.items) 3 s.outputs old field new
    → Adds HoldDraft 4 key s old (record { version = s.version; least_block = s.least_block; processes = s.processes; symmetric = s.symmetric; inputs = s.inputs; outputs = field; delta = s.delta }) new
draft-outputs s field old new key is t depth enough =
    let k = codes "outputs" in
    let d = fill (list_of simplex_of) (λ v. map pairs_seen v.items) 3 s.outputs field old new t depth (omega (arith, enough)) in (
      d.0,
      d.1,
      λ ms h. subst (λ name. HoldDraft (record { version = s.version; least_block = s.least_block; processes = s.processes; symmetric = s.symmetric; inputs = s.inputs; outputs = field; delta = s.delta }) (put name d.0 ms)) (sym is) (record {
        version = other whole_of (λ n. n) (codes "version") k d.0 ms s.version refl h.version;
        least_block = other whole_of (λ n. n) (codes "first_block") k d.0 ms s.least_block refl h.least_block;
        processes = other whole_of (λ n. n) (codes "processes") k d.0 ms s.processes refl h.processes;
        symmetric = other as_bool (λ b. b) (codes "symmetric") k d.0 ms s.symmetric refl h.symmetric;
        inputs = other (list_of simplex_of) (λ v. map pairs_seen v.items) (codes "inputs") k d.0 ms s.inputs refl h.inputs;
        outputs = d.2.more k ms;
        delta = other (list_of entry_of) (λ v. map entry_seen v.items) (codes "delta") k d.0 ms s.delta refl h.delta;
        count = omega (arith, d.2.longer k ms h.outputs, h.count, d.2.none, d.2.one);
      }),
    )

pub draft-delta : (s : RawTaskFields) (field : Option (Vec DeltaEntry Global)) (old new : List Token) (key : List ℕ) → key ≡ codes "delta" → Fills (list_of entry_of) (λ v. map entry_seen v.items) 4 s.delta old field new
    → Adds HoldDraft 4 key s old (record { version = s.version; least_block = s.least_block; processes = s.processes; symmetric = s.symmetric; inputs = s.inputs; outputs = s.outputs; delta = field }) new
draft-delta s field old new key is t depth enough =
    let k = codes "delta" in
    let d = fill (list_of entry_of) (λ v. map entry_seen v.items) 4 s.delta field old new t depth (omega (arith, enough)) in (
      d.0,
      d.1,
      λ ms h. subst (λ name. HoldDraft (record { version = s.version; least_block = s.least_block; processes = s.processes; symmetric = s.symmetric; inputs = s.inputs; outputs = s.outputs; delta = field }) (put name d.0 ms)) (sym is) (record {
        version = other whole_of (λ n. n) (codes "version") k d.0 ms s.version refl h.version;
        least_block = other whole_of (λ n. n) (codes "first_block") k d.0 ms s.least_block refl h.least_block;
        processes = other whole_of (λ n. n) (codes "processes") k d.0 ms s.processes refl h.processes;
        symmetric = other as_bool (λ b. b) (codes "symmetric") k d.0 ms s.symmetric refl h.symmetric;
        inputs = other (list_of simplex_of) (λ v. map pairs_seen v.items) (codes "inputs") k d.0 ms s.inputs refl h.inputs;
        outputs = other (list_of simplex_of) (λ v. map pairs_seen v.items) (codes "outputs") k d.0 ms s.outputs refl h.outputs;
        delta = d.2.more k ms;
        count = omega (arith, d.2.longer k ms h.delta, h.count, d.2.none, d.2.one);
      }),
    )

-- ---- full fields

under_key : {X : Type 0} (f : Data → Option X) (found : Option Data) (x : X) → option_map f found ≡ Some (Some x) → (d : Data) × (found ≡ Some d) × (f d ≡ Some x)
under_key f None x e = cc
under_key f (Some d) x e = (d, refl, ap (flat (f d)) e)

value-found : {X : Type 0} (key : Key) (f : Data → Option X) (found : Option Data) (x : X) → option_map f found ≡ Some (Some x) → value_at key f found ≡ Ok x
value-found key f found x e =
    let d = under_key f found x e in ap (value_at key f) d.1 ∙ ap (or_fault (fault.Shape key 0)) d.2

listed : {X : Type 0} (key : Key) (r : Result (List X) ℕ) (xs : List X) → result_ok r ≡ Some xs → placed key r ≡ Ok xs
listed key (Ok ys) xs e = ap (λ o. Ok (pick ys o)) e
listed key (Err i) xs e = cc

-- a list, as a whole and item by item
list_in : {X : Type 0} (key : Key) (f : Data → Option X) (d : Data) (xs : List X) → list_of f d ≡ Some xs → list_at key f (Some d) ≡ Ok xs
list_in key f null xs e = cc
list_in key f (boolean b) xs e = cc
list_in key f (number n) xs e = cc
list_in key f (string s) xs e = cc
list_in key f (array ds) xs e = listed key (each f ds) xs e
list_in key f (object ms) xs e = cc

list-found : {X : Type 0} (key : Key) (f : Data → Option X) (found : Option Data) (xs : List X) → option_map (list_of f) found ≡ Some (Some xs) → list_at key f found ≡ Ok xs
list-found key f found xs e = let d = under_key (list_of f) found xs e in ap (list_at key f) d.1 ∙ list_in key f d.0 xs d.2

block-found : (version : ℕ) (found : Option Data) (least_block : Option ℕ) → (version == 2) ≡ is_some least_block → option_map whole_of found ≡ option_map (λ m. Some m) least_block
    → least_block_at version found ≡ Ok least_block
block-found version found None named e = rw named refl
block-found version found (Some m) named e = rw (named, value-found FirstBlock whole_of found m e) refl

count-found : (least_block : Option ℕ) (n : ℕ) → n ≡ 6 + held least_block → (n == key_count least_block) ≡ true
count-found None n e = eq-eqb n 6 e
count-found (Some m) n e = eq-eqb n 7 e

-- the draft of the members that full fields hold
pub draft-found : (s : RawTaskFields) (draft : RawTask) (ms : Members) → HoldDraft s ms → (draft.version == 2) ≡ is_some draft.least_block
    → s ≡ record { version = Some draft.version; least_block = draft.least_block; processes = Some draft.processes; symmetric = Some draft.symmetric; inputs = Some draft.inputs; outputs = Some draft.outputs; delta = Some draft.delta }
    → draft_of (object ms) ≡ Ok (draft_seen draft)
unfolding draft_of
draft-found s draft ms any named is =
    let h = subst (λ fields. HoldDraft fields ms) is any in
    rw (value-found Version whole_of (get_member (codes "version") ms) draft.version h.version)
    (rw (block-found draft.version (get_member (codes "first_block") ms) draft.least_block named h.least_block)
    (rw (value-found Processes whole_of (get_member (codes "processes") ms) draft.processes h.processes)
    (rw (value-found Symmetric as_bool (get_member (codes "symmetric") ms) draft.symmetric h.symmetric)
    (rw (list-found Inputs simplex_of (get_member (codes "inputs") ms) (map pairs_seen draft.inputs.items) h.inputs)
    (rw (list-found Outputs simplex_of (get_member (codes "outputs") ms) (map pairs_seen draft.outputs.items) h.outputs)
    (rw (list-found Delta entry_of (get_member (codes "delta") ms) (map entry_seen draft.delta.items) h.delta)
    (rw (count-found draft.least_block (members_len ms) (omega (arith, h.count))) refl)))))))

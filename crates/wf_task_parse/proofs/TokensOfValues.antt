-- Tokens that a value was read from: each form of value, from its parts.
use Rattle.std.proofs.Common.{◌≡◌, ℕ, suc, ◌-◌, ◌<◌, ◌≤◌, Bool, List, [], ◌∷◌, ◌++◌, length, Option, Some, None, IfSome, option_map, Result, Ok, Err, refl, sym, ap, ◌∙◌, subst, arith, map, IfOk}
use Rattle.std.specs.Fmt.{decimal}
use Rattle.std.specs.Result.{result_ok}
use Rattle.json.specs.Token.{Token}
use Rattle.json.specs.Json as json
use Rattle.json.specs.Json.{parse_map, after_end_array, read_key, value, items, members}
use Rattle.json.proofs.Grammar.{left, value_is, value-begin_array, value-begin_object, skip_value-shorter, read_key-shorter}
use Rattle.serde_json.specs.Data.{Data, array, object, unsigned, Items, no_items, item, Members, no_members, put}
use Rattle.serde_json.specs.Find.{as_bool}
use Rattle.serde_json.specs.Read.{number_of, of_json, of_items, of_members, converted}
use Rattle.serde_json.proofs.Numbers.{number_of-decimal}
use Rattle.wf_task_parse.proofs.ConvertedValues.{converted_some, converted-array, converted-object, item_read, items_over, member_read, members_over}
use Rattle.wf_task_parse.specs.Shape.{whole_of, pair_of, with_first, each, all_of, list_of}
use Rattle.wf_task_parse.specs.Plain.{data_at, Takes, TakesItems, Adds, TakesMembers}

-- ---- a value

data_shorter : (depth : ℕ) (old new : List Token) (d : Data) → data_at depth old ≡ Some (d, new) → length new < length old
data_shorter depth old new d e = let j = converted_some of_json (value depth old) d new e in skip_value-shorter depth old new (ap left j.1)

module _ {X : Type 0} (f : Data → Option X) (deep : ℕ) where
  pub takes-shorter : (old : List Token) (x : X) (new : List Token) → Takes f deep old x new → length new < length old
  takes-shorter old x new t = let d = converted_some f (data_at deep old) x new (t deep (omega arith)) in data_shorter deep old new d.0 d.1

not_end : (depth : ℕ) (ts : List Token) (j : json.Json) (r : List Token) → value depth ts ≡ Some (j, r) → after_end_array ts ≡ None
not_end depth [] j r e = refl
not_end depth (Token.begin_object ∷ ts) j r e = refl
not_end depth (Token.end_object ∷ ts) j r e = refl
not_end depth (Token.begin_array ∷ ts) j r e = refl
not_end depth (Token.end_array ∷ ts) j r e = let none : ◌≡◌ {A = Option (json.Json × List Token)} None (Some (j, r)) = sym (value_is depth (Token.end_array ∷ ts)) ∙ e in cc
not_end depth (Token.key s ∷ ts) j r e = refl
not_end depth (Token.string s ∷ ts) j r e = refl
not_end depth (Token.number s ∷ ts) j r e = refl
not_end depth (Token.boolean b ∷ ts) j r e = refl
not_end depth (Token.null ∷ ts) j r e = refl
not_end depth (Token.bad ∷ ts) j r e = refl

-- no bracket that closes a list begins a value
pub takes-no_end : {X : Type 0} (f : Data → Option X) (deep : ℕ) (old : List Token) (x : X) (new : List Token) → Takes f deep old x new → after_end_array old ≡ None
takes-no_end f deep old x new t =
    let d = converted_some f (data_at deep old) x new (t deep (omega arith)) in
    let j = converted_some of_json (value deep old) d.0 new d.1 in
    not_end deep old j.0 new j.1

pub takes-number : (s : List ℕ) (n : ℕ) (new : List Token) → number_of s ≡ Some (unsigned n) → Takes whole_of 0 (Token.number s ∷ new) n new
takes-number s n new e depth enough = ap (λ o. converted whole_of (converted of_json o)) (value_is depth (Token.number s ∷ new)) ∙ rw e

pub takes-bool : (b : Bool) (new : List Token) → Takes as_bool 0 (Token.boolean b ∷ new) b new
takes-bool b new depth enough = ap (λ o. converted as_bool (converted of_json o)) (value_is depth (Token.boolean b ∷ new))

-- ---- a list

module _ {X : Type 0} (f : Data → Option X) where
  first_found : (x : X) (r : Result (List X) ℕ) (ts : List Token) → option_map (λ xs. (xs, ts)) (result_ok (with_first (Some x) r)) ≡ parse_map (λ xs. x ∷ xs) (option_map (λ xs. (xs, ts)) (result_ok r))
  first_found x (Ok xs) ts = refl
  first_found x (Err i) ts = refl

  with_found : (d : Data) (x : X) → f d ≡ Some x → (o : Option (Items × List Token)) → converted (all_of f) (parse_map (item d) o) ≡ parse_map (λ xs. x ∷ xs) (converted (all_of f) o)
  with_found d x e None = refl
  with_found d x e (Some p) = ap (λ o. option_map (λ xs. (xs, p.1)) (result_ok (with_first o (each f p.0)))) e ∙ first_found x (each f p.0) p.1

  list_items : (o : Option (Items × List Token)) → converted (list_of f) (parse_map array o) ≡ converted (all_of f) o
  list_items None = refl
  list_items (Some p) = refl

  module _ (deep : ℕ) where
    pub items-over : (ts new : List Token) → after_end_array ts ≡ Some new → TakesItems f deep ts [] new
    items-over ts new e depth enough n all = ap (converted (all_of f)) (items_over (value depth) n ts new all e)

    pub items-more : (ts : List Token) (x : X) (r : List Token) (xs : List X) (new : List Token) → Takes f deep ts x r → after_end_array ts ≡ None → TakesItems f deep r xs new → TakesItems f deep ts (x ∷ xs) new
    items-more ts x r xs new first going rest depth enough n all =
        let less = takes-shorter f deep ts x r first in
        let d = converted_some f (data_at depth ts) x r (first depth enough) in
        ap (converted (all_of f)) (item_read (value depth) n ts r d.0 (omega (arith, less, all)) going d.1)
        ∙ with_found d.0 x d.2 (converted of_items (items (value depth) (n - 1) r))
        ∙ ap (parse_map (λ ys. x ∷ ys)) (rest depth enough (n - 1) (omega (arith, less, all)))

    pub takes-list : (ts : List Token) (xs : List X) (new : List Token) → TakesItems f deep ts xs new → Takes (list_of f) (suc deep) (Token.begin_array ∷ ts) xs new
    takes-list ts xs new t depth enough =
        ap (λ o. converted (list_of f) (converted of_json o)) (value-begin_array depth ts (omega (arith, enough)))
        ∙ ap (converted (list_of f)) (converted-array (items (value (depth - 1)) (length ts) ts))
        ∙ list_items (converted of_items (items (value (depth - 1)) (length ts) ts))
        ∙ t (depth - 1) (omega (arith, enough)) (length ts) (omega arith)

pub takes-list-if : {X V E : Type 0} (f : Data → Option X) (deep : ℕ) (seen : V → List X) (r : Result (Option V) E) (old ts new : List Token) → old ≡ Token.begin_array ∷ ts
    → IfOk r (λ found. IfSome found (λ v. TakesItems f deep ts (seen v) new)) → IfOk r (λ found. IfSome found (λ v. Takes (list_of f) (suc deep) old (seen v) new))
takes-list-if f deep seen (Err e) old ts new is h = h
takes-list-if f deep seen (Ok None) old ts new is h = h
takes-list-if f deep seen (Ok (Some v)) old ts new is h = subst (λ before. Takes (list_of f) (suc deep) before (seen v) new) (sym is) (takes-list f deep ts (seen v) new h)

-- one found item more stands before the rest
pub push-seen : {V X : Type 0} (seen : V → X) (found : List V) (v : V) (pushed : List V) (xs : List X) → pushed ≡ found ++ v ∷ [] → map seen found ++ seen v ∷ xs ≡ map seen pushed ++ xs
push-seen {V} {X} seen found v pushed xs is = subst (λ vs. map seen found ++ seen v ∷ xs ≡ map seen vs ++ xs) (sym is) (by found)
  where
    by : (vs : List V) → map seen vs ++ seen v ∷ xs ≡ map seen (vs ++ v ∷ []) ++ xs
    by [] = refl
    by (w ∷ vs) = ap (λ ys. seen w ∷ ys) (by vs)

pub takes-pair : (ts r s new : List Token) (x y : ℕ) → Takes whole_of 0 ts x r → Takes whole_of 0 r y s → after_end_array s ≡ Some new → Takes pair_of 1 (Token.begin_array ∷ ts) (x, y) new
takes-pair ts r s new x y first second end depth enough =
    let p = value (depth - 1) in
    let n = length ts in
    let one = converted_some whole_of (data_at (depth - 1) ts) x r (first (depth - 1) (omega arith)) in
    let two = converted_some whole_of (data_at (depth - 1) r) y s (second (depth - 1) (omega arith)) in
    let less = takes-shorter whole_of 0 ts x r first in
    let lesser = takes-shorter whole_of 0 r y s second in
    let last : converted of_items (items p (n - 1 - 1) s) ≡ Some (no_items, new) = items_over p (n - 1 - 1) s new (omega (arith, less, lesser)) end in
    let more : converted of_items (items p (n - 1) r) ≡ Some (item two.0 no_items, new) =
    item_read p (n - 1) r s two.0 (omega (arith, less, lesser)) (takes-no_end whole_of 0 r y s second) two.1 ∙ ap (parse_map (item two.0)) last in
    let all : converted of_items (items p n ts) ≡ Some (item one.0 (item two.0 no_items), new) =
    item_read p n ts r one.0 (omega (arith, less)) (takes-no_end whole_of 0 ts x r first) one.1 ∙ ap (parse_map (item one.0)) more in
    ap (λ o. converted pair_of (converted of_json o)) (value-begin_array depth ts (omega (arith, enough)))
    ∙ ap (converted pair_of) (converted-array (items p n ts) ∙ ap (parse_map array) all)
    ∙ rw one.2 (rw two.2 refl)

pub takes-digits : (x y : ℕ) → x < 10 → y < 10 → (old new : List Token) → old ≡ Token.begin_array ∷ Token.number (decimal x) ∷ Token.number (decimal y) ∷ Token.end_array ∷ new → Takes pair_of 1 old (x, y) new
takes-digits x y low lower old new is =
    let last = Token.end_array ∷ new in
    let more = Token.number (decimal y) ∷ last in
    let one = takes-number (decimal x) x more (number_of-decimal x (omega (arith, low))) in
    let two = takes-number (decimal y) y last (number_of-decimal y (omega (arith, lower))) in
    subst (λ ts. Takes pair_of 1 ts (x, y) new) (sym is) (takes-pair (Token.number (decimal x) ∷ more) more last new x y one two refl)

-- ---- an object

adds-shorter : {S : Type 0} (hold : S → Members → Type 0) (deep : ℕ) (key : List ℕ) (before : S) (old : List Token) (after : S) (new : List Token) → Adds hold deep key before old after new → length new < length old
adds-shorter hold deep key before old after new t = let d = t deep (omega arith) in data_shorter deep old new d.0 d.1

-- of the tokens `start` some members were put into the fields, and `now` are the tokens after them
abbrev pub HasRead : {S : Type 0} → (S → Members → Type 0) → ℕ → List Token → S → List Token → Type 0
HasRead hold deep start fields now =
    (depth : ℕ) → deep ≤ depth → (n : ℕ) × (length now ≤ n) × (found : Members)
    × (converted (λ ms. of_members ms no_members) (members (value depth) (length start) start) ≡ converted (λ ms. of_members ms found) (members (value depth) n now)) × hold fields found

module _ {S : Type 0} (hold : S → Members → Type 0) (deep : ℕ) (start : List Token) where
  pub more-shorter : (before after : S) (now s new : List Token) (k : List ℕ) → read_key now ≡ Some (Some k, s) → Adds hold deep k before s after new → length new < length now
  more-shorter before after now s new k key added = omega (arith, read_key-shorter now (Some k) s key, adds-shorter hold deep k before s after new added)

  pub read-more : (before after : S) (now s new : List Token) (k : List ℕ) → HasRead hold deep start before now → read_key now ≡ Some (Some k, s) → Adds hold deep k before s after new → HasRead hold deep start after new
  read-more before after now s new k done key added depth enough =
      let so = done depth enough in
      let d = added depth enough in
      let less = more-shorter before after now s new k key added in (
        so.0 - 1,
        omega (arith, so.1, less),
        put k d.0 so.2,
        so.3 ∙ member_read (value depth) so.0 now so.2 k s new d.0 (omega (arith, so.1, less)) key d.1,
        d.2 so.2 so.4,
      )

  pub read-all : (fields : S) (now new : List Token) → HasRead hold deep start fields now → read_key now ≡ Some (None, new) → TakesMembers hold deep start fields new
  read-all fields now new done end depth enough =
      let so = done depth enough in (so.2, so.3 ∙ members_over (value depth) so.0 now so.2 new so.1 end, so.4)

pub takes-object : {S X : Type 0} (hold : S → Members → Type 0) (deep : ℕ) (f : Data → Option X) (ts : List Token) (fields : S) (x : X) (new : List Token) → TakesMembers hold deep ts fields new
    → ((ms : Members) → hold fields ms → f (object ms) ≡ Some x) → Takes f (suc deep) (Token.begin_object ∷ ts) x new
takes-object hold deep f ts fields x new t known depth enough =
    let all = t (depth - 1) (omega (arith, enough)) in
    ap (λ o. converted f (converted of_json o)) (value-begin_object depth ts (omega (arith, enough)))
    ∙ ap (converted f) (converted-object (members (value (depth - 1)) (length ts) ts) ∙ ap (parse_map object) all.1)
    ∙ ap (option_map (λ y. (y, new))) (known all.0 all.2)

pub takes-object-if : {S X V : Type 0} (hold : S → Members → Type 0) (deep : ℕ) (f : Data → Option X) (seen : V → X) (found : Option V) (old ts : List Token) (fields : S) (new : List Token) → old ≡ Token.begin_object ∷ ts
    → TakesMembers hold deep ts fields new → IfSome found (λ v. (ms : Members) → hold fields ms → f (object ms) ≡ Some (seen v)) → IfSome found (λ v. Takes f (suc deep) old (seen v) new)
takes-object-if hold deep f seen None old ts fields new is t known = known
takes-object-if hold deep f seen (Some v) old ts fields new is t known =
    subst (λ before. Takes f (suc deep) before (seen v) new) (sym is) (takes-object hold deep f ts fields (seen v) new t known)

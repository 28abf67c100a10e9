-- What is kept of the kernel's answers.
use Rattle.std.proofs.Common.{◌≡◌, ℕ, zero, suc, ◌<◌, ◌≤◌, ◌%◌, ◌^◌, List, [], ◌∷◌, ◌++◌, map, length, zip, get_or, slice_index, filter, nat_lt, ◌&&◌, true, All, Option, Some, None, refl, sym, ap, ◌∙◌, subst, inl, inr, arith, ◌==◌, false, ne_eqb}
use Rattle.std.specs.List.{slice_index_or}
use Rattle.std.proofs.lemmas.List.{get_or-map, get_or_default, length-map}
use Rattle.std.proofs.lemmas.List.Elements.{All-append, All-map}
use Rattle.std.proofs.lemmas.Bool.{and_from, and_parts, cases_lt, false≢true, lt-ltb}
use Rattle.wf_model.specs.Simplex.{processes_of}
use Rattle.wf_model.specs.Limits.{most_executions}
use Rattle.wf_model.specs.Problem.{Constraint, no_constraint}
use Rattle.wf_lane.specs.Table.{AreFirstParts, HasSupported, Table, sets_of}
use Rattle.wf_network.specs.Problems.{IsNetwork, IsWide, constraint_seen, constraints_in, executions_in, no_rule, rule_at, rule_in, rule_of}
use Rattle.wf_network.specs.Users.{no_execution}
use Rattle.wf_base.specs.Set.Parts.{part_limit, part_values}
use Rattle.wf_base.specs.Set.Sets.{values_in}
use Rattle.wf_base.proofs.OfSet.Lemmas.{has_large, in_four, values_of_part}
use Rattle.wf_model.specs.Lists.{has}
use Rattle.wf_model.proofs.Lemmas.{has-filter}
use Rattle.wf_network.specs.Revising.{AreKnown, IsKnown, IsKnownNibbles, IsKnownParts, IsKnownWord, answer_seen, answers_in, nibbles_seen, table_seen, wide_set, widened, word_seen}
use Rattle.wf_network.specs.declared.memo.TheConstants.{NO_EXECUTION}
use Rattle.wf_network.specs.declared.memo.SupportCache.{SupportCache}
use Rattle.wf_network.specs.declared.memo.CacheEntry.{CacheEntry}
use Rattle.wf_network.specs.declared.memo.NibbleEntry.{NibbleEntry}
use Rattle.wf_network.specs.declared.memo.Set64Entry.{Set64Entry}
use Rattle.wf_network.specs.declared.memo.WordEntry.{WordEntry}
use Rattle.wf_complex.specs.declared.packed.PackedExecution.{PackedExecution}
use Rattle.wf_network.specs.declared.problem.Network.{Network}
use Rattle.wf_network.specs.declared.problem.Rule.{Rule}
use Rattle.wf_network.proofs.LeftLemmas.{sets_at, supported_there}
use Rattle.wf_network.proofs.PackedLemmas.{cut_supported}
use Rattle.wf_network.proofs.Lemmas.{few_at}

-- ---- answers of all kinds

front : {X : Type 0} (P : X → Type 0) (xs ys : List X) → All P (xs ++ ys) → All P xs
front P [] ys all i d low = absurd (let none : ⊥ = omega (arith, low) in none)
front P (x ∷ xs) ys all zero d low = all 0 d (omega arith)
front P (x ∷ xs) ys all (suc i) d low = front P xs ys (λ k e h. all (suc k) e (omega (arith, h))) i d (omega (arith, low))

back : {X : Type 0} (P : X → Type 0) (xs ys : List X) → All P (xs ++ ys) → All P ys
back P [] ys all = all
back P (x ∷ xs) ys all = back P xs ys (λ k e h. all (suc k) e (omega (arith, h)))

from_map : {X Y : Type 0} (P : Y → Type 0) (f : X → Y) (y : Y) (xs : List X) → All P (map f xs) → All (λ x. P (f x)) xs
from_map P f y [] all i d low = absurd (let none : ⊥ = omega (arith, low) in none)
from_map P f y (x ∷ xs) all zero d low = all 0 y (omega arith)
from_map P f y (x ∷ xs) all (suc i) d low = from_map P f y xs (λ k e h. all (suc k) e (omega (arith, h))) i d (omega (arith, low))

-- the answers of a memo for candidates below 4, then those below 16 too, then those below 64 too
abbrev tiny_in : SupportCache → List (Option CacheEntry)
tiny_in m = map nibbles_seen m.tiny.items

abbrev small_in : SupportCache → List (Option CacheEntry)
small_in m = tiny_in m ++ map word_seen m.small.items

abbrev narrow_in : SupportCache → List (Option CacheEntry)
narrow_in m = small_in m ++ map answer_seen m.narrow.items

up_to_narrow : (ks : List Constraint) (m : SupportCache) → AreKnown ks (answers_in m) → AreKnown ks (narrow_in m)
up_to_narrow ks m known = front (IsKnown ks) (narrow_in m) m.wide.items known

up_to_small : (ks : List Constraint) (m : SupportCache) → AreKnown ks (answers_in m) → AreKnown ks (small_in m)
up_to_small ks m known = front (IsKnown ks) (small_in m) (map answer_seen m.narrow.items) (up_to_narrow ks m known)

pub tiny_known : (ks : List Constraint) (m : SupportCache) → AreKnown ks (answers_in m) → All (IsKnownNibbles ks) m.tiny.items
tiny_known ks m known = from_map (IsKnown ks) nibbles_seen None m.tiny.items (front (IsKnown ks) (tiny_in m) (map word_seen m.small.items) (up_to_small ks m known))

pub small_known : (ks : List Constraint) (m : SupportCache) → AreKnown ks (answers_in m) → All (IsKnownWord ks) m.small.items
small_known ks m known = from_map (IsKnown ks) word_seen None m.small.items (back (IsKnown ks) (tiny_in m) (map word_seen m.small.items) (up_to_small ks m known))

pub narrow_known : (ks : List Constraint) (m : SupportCache) → AreKnown ks (answers_in m) → All (IsKnownParts ks) m.narrow.items
narrow_known ks m known = from_map (IsKnown ks) answer_seen None m.narrow.items (back (IsKnown ks) (small_in m) (map answer_seen m.narrow.items) (up_to_narrow ks m known))

pub wide_known : (ks : List Constraint) (m : SupportCache) → AreKnown ks (answers_in m) → All (IsKnown ks) m.wide.items
wide_known ks m known = back (IsKnown ks) (narrow_in m) m.wide.items known

pub all_known : (ks : List Constraint) (tiny : List NibbleEntry) (small : List WordEntry) (narrow : List (Option Set64Entry)) (wide : List (Option CacheEntry)) → All (IsKnownNibbles ks) tiny → All (IsKnownWord ks) small → All (IsKnownParts ks) narrow → All (IsKnown ks) wide
    → AreKnown ks (map nibbles_seen tiny ++ map word_seen small ++ map answer_seen narrow ++ wide)
all_known ks tiny small narrow wide first second third fourth =
    let P = IsKnown ks in
    All-append P (map nibbles_seen tiny ++ map word_seen small ++ map answer_seen narrow) wide
    (All-append P (map nibbles_seen tiny ++ map word_seen small) (map answer_seen narrow)
    (All-append P (map nibbles_seen tiny) (map word_seen small) (All-map P nibbles_seen tiny first) (All-map P word_seen small second)) (All-map P answer_seen narrow third)) fourth

-- what is none or nothing at all is none
pub none_alone : {A : Type 0} (C : Option A → Type 0) → ((x : A) → C (Some x) → ⊥) → (y : Option A) → C y → y ≡ None
none_alone C never None h = refl
none_alone C never (Some x) h = absurd (never x h)

-- ---- one answer

length_beside : (ps vs : List ℕ) → length ps ≤ length vs → length (zip ps vs) ≡ length ps
length_beside [] vs few = refl
length_beside (p ∷ ps) [] few = absurd (let none : ⊥ = omega (arith, few) in none)
length_beside (p ∷ ps) (v ∷ vs) few = ap suc (length_beside ps vs (omega (arith, few)))

-- the constraint of an execution has the table of its rule
table_is : (rules : List Rule) (x : PackedExecution) → length x.points ≡ 4 → length (rule_of rules x).simplex ≤ 4 → IsWide (rule_of rules x) → table_seen (constraint_seen rules x) ≡ (rule_of rules x).table
table_is rules x long few wide =
    let s = (rule_of rules x).simplex in
    let count : length (processes_of s) ≡ length s = length-map s (λ v. v.0) in
    let width : length (zip (processes_of s) x.points) ≡ (rule_of rules x).table.width = length_beside (processes_of s) x.points (omega (arith, count, few, long)) ∙ count ∙ sym wide in
    λ i. record { width = width i; rows = (rule_of rules x).table.rows }

table_at : (n : Network) (e : ℕ) → IsNetwork n → e < length (executions_in n) → length (rule_in n e).simplex ≤ 4 → table_seen (get_or (constraints_in n) e no_constraint) ≡ (rule_in n e).table
table_at n e network low few =
    let x = get_or (executions_in n) e no_execution in
    let within = network.within e no_execution low in
    ap table_seen (get_or-map (constraint_seen n.rules.items) (executions_in n) e no_execution no_constraint low)
    ∙ table_is n.rules.items x within.long few (network.wide x.simplex no_rule within.rule)

-- what is right for a rule, as it is read
pub right_at : (n : Network) (number : ℕ) (rule : Rule) (candidates supported : List (List ℕ)) → number < length n.rules.items → rule ≡ slice_index_or n.rules.items number rule → HasSupported supported rule.table candidates → HasSupported supported (rule_at n number).table candidates
right_at n number rule candidates supported low here right = subst (λ (r : Rule). HasSupported supported r.table candidates) (here ∙ sym (get_or_default n.rules.items number no_rule rule low)) right

-- the same of parts that are packed: nothing is lost past their limit, if candidates are below it
pub packed_right : (n : Network) (number : ℕ) (rule : Rule) (bits : ℕ) (given candidates parts found : List ℕ) → IsNetwork n → number < length n.rules.items → rule ≡ slice_index_or n.rules.items number rule → candidates ≡ given → length given ≡ 4 → All (λ p. p < 2 ^ bits) given → length parts ≡ 4 → found ≡ map (λ p. p % 2 ^ bits) parts
    → HasSupported (widened parts) rule.table (widened candidates) → HasSupported (widened found) (rule_at n number).table (widened given)
packed_right n number rule bits given candidates parts found network low here is many below long cut right =
    let table = (rule_at n number).table in
    let few = (network.processes number no_rule low).narrow in
    let wide = network.wide number no_rule low in
    subst (λ ps. HasSupported (widened ps) table (widened given)) (sym cut)
    (cut_supported bits table parts given long many (omega (arith, wide, few)) below
    (subst (λ ps. HasSupported (widened parts) table (widened ps)) is (right_at n number rule (widened candidates) (widened parts) low here right)))

-- the execution that stands for a rule, as it is read
pub lead_is : (n : Network) (rule lead : ℕ) → IsNetwork n → rule < length n.rules.items → lead ≡ slice_index_or n.leads.items rule lead → lead ≡ slice_index n.leads.items rule
lead_is n rule lead network low here = here ∙ sym (get_or_default n.leads.items rule 0 lead (omega (arith, low, network.as_many_leads)))

-- its number is small
lead_low : (n : Network) (rule : ℕ) → IsNetwork n → rule < length n.rules.items → slice_index n.leads.items rule ≤ most_executions
lead_low n rule network low = omega (arith, (network.leads rule (omega (arith, low, network.as_many_leads))).low, network.few_executions)

-- it has the rule's table
lead_table : (n : Network) (rule : ℕ) → IsNetwork n → rule < length n.rules.items → slice_index n.leads.items rule < length (executions_in n) → table_seen (get_or (constraints_in n) (slice_index n.leads.items rule) no_constraint) ≡ (rule_at n rule).table
lead_table n rule network low inside =
    let lead = slice_index n.leads.items rule in
    table_at n lead network inside (few_at n lead network inside) ∙ (network.leads rule (omega (arith, low, network.as_many_leads))).same inside

-- what is kept for that execution serves for the rule
pub known_serves : (n : Network) (rule : ℕ) (known : CacheEntry) → IsNetwork n → rule < length n.rules.items → known.execution ≡ slice_index n.leads.items rule
    → IsKnown (constraints_in n) (Some known) → HasSupported known.supported (rule_at n rule).table known.candidates
known_serves n rule known network low is right =
    let inside : slice_index n.leads.items rule < length (executions_in n) = omega (arith, is, right.there, length-map (executions_in n) (constraint_seen n.rules.items)) in
    subst (λ t. HasSupported known.supported t known.candidates) (ap (λ e. table_seen (get_or (constraints_in n) e no_constraint)) is ∙ lead_table n rule network low inside) right.supported

-- the number is that of an execution
pub lead_there : (n : Network) (rule lead : ℕ) → IsNetwork n → rule < length n.rules.items → lead ≡ slice_index n.leads.items rule → (lead == NO_EXECUTION) ≡ false
lead_there n rule lead network low is = ne_eqb lead NO_EXECUTION (λ e. absurd (let none : ⊥ = omega (arith, is, e, lead_low n rule network low) in none))

-- what the rule supports may be kept for it
pub known_now : (n : Network) (rule lead : ℕ) (candidates supported : List (List ℕ)) → IsNetwork n → rule < length n.rules.items → lead ≡ slice_index n.leads.items rule → lead < length (executions_in n)
    → HasSupported supported (rule_at n rule).table candidates → IsKnown (constraints_in n) (Some (record { execution = lead; candidates = candidates; supported = supported }))
known_now n rule lead candidates supported network low is inside right = record {
  there = omega (arith, inside, length-map (executions_in n) (constraint_seen n.rules.items));
  supported = subst (λ t. HasSupported supported t candidates) (sym (ap (λ e. table_seen (get_or (constraints_in n) e no_constraint)) is ∙ lead_table n rule network low (omega (arith, is, inside)))) right;
}

-- ---- parts

below_64 : (part v : ℕ) → has (part_values part) v ≡ true → nat_lt v part_limit ≡ true
below_64 part v there = elim (cases_lt v 64) [
  | inl low ↦ lt-ltb v 64 low
  | inr large ↦ absurd (false≢true (sym (has_large part v (λ low. absurd (let none : ⊥ = omega (arith, low, large) in none))) ∙ there))
]

-- the values below 64 that are supported are all that are, where the candidates are below 64
pub first_supported : (masks : List (List ℕ)) (candidates parts up : List ℕ) (table : Table) → length up ≡ 4 → length candidates ≡ 4 → table.width ≤ 4 → AreFirstParts parts masks → ((i : ℕ) → i < table.width → slice_index up i ≡ slice_index parts i)
    → HasSupported masks table (widened candidates) → HasSupported (widened up) table (widened candidates)
first_supported masks candidates parts up table up_long long narrow firsts same right place v low =
    let mask = get_or masks place [] in
    let sets = sets_of table.width (widened candidates) in
    let here : values_in (get_or (widened up) place []) ≡ filter (λ a. nat_lt a part_limit) (values_in mask) =
    ap values_in (get_or-map wide_set up place 0 [] (omega (arith, low, narrow, up_long))) ∙ values_of_part (slice_index up place) ∙ ap part_values (same place low)
    ∙ in_four (λ k. part_values (slice_index parts k) ≡ filter (λ a. nat_lt a part_limit) (values_in (get_or masks k []))) firsts.first firsts.second firsts.third firsts.fourth place (omega (arith, low, narrow)) in
    let has_here : has (values_in (get_or (widened up) place [])) v ≡ (nat_lt v part_limit && has (values_in mask) v) = ap (λ vs. has vs v) here ∙ has-filter (λ a. nat_lt a part_limit) (values_in mask) v in (
      λ there. (right place v low).0 (and_parts (nat_lt v part_limit) (has (values_in mask) v) (sym has_here ∙ there)).1,
      λ supported.
          let found : has (part_values (slice_index candidates place)) v ≡ true =
          ap (λ vs. has vs v) (sym (values_of_part (slice_index candidates place)) ∙ ap values_in (sym (get_or-map wide_set candidates place 0 [] (omega (arith, low, narrow, long))))
          ∙ sym (sets_at table.width place (widened candidates) (omega (arith, narrow, long, length-map candidates wide_set)) low))
          ∙ supported_there table.rows sets place v supported in
          has_here ∙ and_from (nat_lt v part_limit) (has (values_in mask) v) (below_64 (slice_index candidates place) v found) ((right place v low).1 supported),
    )

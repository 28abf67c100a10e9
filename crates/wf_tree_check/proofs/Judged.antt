-- What is accepted is a tree, and trees are accepted but for limits.
use Rattle.std.proofs.Common.{◌≡◌, ℕ, zero, suc, ◌==◌, nat_lt, not, Bool, true, false, cond, List, [], ◌∷◌, ◌++◌, length, Option, None, Some, Ok, Err, ◌⊎◌, inl, inr, refl, sym, ap, ◌∙◌, subst, append_assoc, append-nil}
use Rattle.std.proofs.lemmas.Bool.{eq-eqb, eqb-true, lt-ltb, ltb-true}
use Rattle.wf_model.specs.Task.{Rule, Task, Tuple, first_block}
use Rattle.wf_tree_model.specs.Counting.Rules.{rule_at}
use Rattle.wf_tree_model.proofs.OfCounting.Lemmas.{listed_rule}
use Rattle.wf_tree_model.specs.Cases.{components, in_case}
use Rattle.wf_tree_model.specs.Covers.{Covering, covered}
use Rattle.wf_tree_model.specs.Splits.{Splitting, by_stars, split}
use Rattle.wf_tree_model.specs.Trees.{AreTrees, IsObstruction, IsTree, Move, Node, Tree, Trees, balance, balance_node, by_cases, by_cover, by_sheets, by_split, case_node, cover_node, new_name, no_tree, nodes_of, nodes_of_each, split_node, tree_before}
use Rattle.wf_tree_steps.specs.Balance.Judge.{balance_fault}
use Rattle.wf_tree_steps.specs.declared.balance.fault.BalanceFault.{BalanceFault}
use Rattle.wf_tree_steps.proofs.OfBalance.Lemmas.{exact}
use Rattle.wf_tree_steps.specs.declared.cover.cover.CoverFault.{CoverFault}
use Rattle.wf_tree_refine.specs.Limits.{split_fault}
use Rattle.wf_tree_refine.specs.declared.fault.RefineFault.{RefineFault}
use Rattle.wf_tree_steps.specs.Cover.Faults.{cover_fault}
use Rattle.wf_tree_steps.specs.Cover.Limits.{sheets_fault}
use Rattle.wf_tree_steps.proofs.OfCover.Lemmas.{exact as exact_cover}
use Rattle.wf_tree_check.specs.Judge.{Judged, each_judged, ended, fault_of, judged}
use Rattle.wf_tree_check.specs.Limits.{limit_of, most_levels, most_nodes}
use Rattle.wf_tree_check.specs.declared.fault.Limit.{Limit}
use Rattle.wf_tree_check.specs.declared.fault.Limit.TheVariants.{Depth, Nodes}
use Rattle.wf_tree_check.specs.declared.fault.TreeFault.{TreeFault}
use Rattle.wf_tree_check.specs.declared.fault.TreeFault.TheVariants.{FirstBlock, NoBalance, NoCover, NoNode, NoSimplex, Symmetric, TooLarge}

-- ---- what is accepted

abbrev IsFirst : Task → List Node → ℕ × List Node → Type 0
IsFirst t nodes behind = (tree : Tree) × IsTree tree t × (nodes ≡ nodes_of tree ++ behind.1)

-- what a judge accepts begins with a tree
abbrev IsSound : Task → (ℕ → List Node → Judged) → Type 0
IsSound t judge = (k : ℕ) (nodes : List Node) (behind : ℕ × List Node) → judge k nodes ≡ Ok behind → IsFirst t nodes behind

same_end : (j : Judged) (x y : ℕ × List Node) → j ≡ Ok x → j ≡ Ok y → x ≡ y
same_end j x y h k = cc

no_end : (j : Judged) (fault : TreeFault) (x : ℕ × List Node) → j ≡ Err fault → j ≡ Ok x → ⊥
no_end j fault x h k = cc

same_behind : (k : ℕ) (nodes : List Node) (behind : ℕ × List Node) (j : Judged) → j ≡ Ok (k, nodes) → j ≡ Ok behind → nodes ≡ behind.1
same_behind k nodes behind j h is = ap (λ (e : ℕ × List Node). e.1) (same_end j (k, nodes) behind h is)

-- what comes of no fault, or of a fault
abbrev if_within : ℕ → Judged → Option RefineFault → Judged
if_within k more o = elim o [ Some fault ↦ Err (TooLarge k (limit_of fault)) | None ↦ more ]

abbrev if_balance : ℕ → List Node → Option BalanceFault → Judged
if_balance k nodes o = elim o [ None ↦ Ok (suc k, nodes) | Some fault ↦ Err (NoBalance k fault) ]

abbrev if_cover : ℕ → Judged → Option CoverFault → Judged
if_cover k more o = elim o [ Some fault ↦ Err (NoCover k fault) | None ↦ more ]

-- one judge after another
abbrev after : (ℕ → List Node → Judged) → Judged → Judged
after next j = elim j [ Ok behind ↦ next behind.0 behind.1 | Err fault ↦ Err fault ]

each_sound : (t : Task) (of : Rule) (one : List Tuple → ℕ → List Node → Judged) → ((part : List Tuple) → IsSound (in_case of part t) (one part)) → (parts : List (List Tuple)) (k : ℕ) (nodes : List Node) (behind : ℕ × List Node) →
    each_judged one parts k nodes ≡ Ok behind → (trees : Trees) × AreTrees trees t of parts × (nodes ≡ nodes_of_each trees ++ behind.1)
each_sound t of one sound [] k nodes behind h = (no_tree, tt, same_behind k nodes behind (Ok (k, nodes)) refl h)
each_sound t of one sound (part ∷ parts) k nodes behind h = by (one part k nodes) refl h (λ e more. each_sound t of one sound parts e.0 e.1 behind more)
  where
    by : (j : Judged) → one part k nodes ≡ j → after (each_judged one parts) j ≡ Ok behind →
        ((e : ℕ × List Node) → each_judged one parts e.0 e.1 ≡ Ok behind → (trees : Trees) × AreTrees trees t of parts × (e.1 ≡ nodes_of_each trees ++ behind.1)) →
        (trees : Trees) × AreTrees trees t of (part ∷ parts) × (nodes ≡ nodes_of_each trees ++ behind.1)
    by (Ok e) is more deeper =
        let first = sound part k nodes e is in
        let rest = deeper e more in (
          tree_before first.0 rest.0,
          (first.1, rest.1),
          first.2 ∙ ap (λ ns. nodes_of first.0 ++ ns) rest.2 ∙ sym (append_assoc (nodes_of first.0) (nodes_of_each rest.0) behind.1),
        )
    by (Err fault) is bad deeper = absurd (no_end (Err fault) fault behind refl bad)

-- a step within the limits
within_sound : (k : ℕ) (more : Judged) (o : Option RefineFault) (behind : ℕ × List Node) → if_within k more o ≡ Ok behind → more ≡ Ok behind
within_sound k more None behind h = h
within_sound k more (Some fault) behind h = absurd (no_end (Err (TooLarge k (limit_of fault))) (TooLarge k (limit_of fault)) behind refl h)

-- the split and the cover of a node
abbrev split_of : Task → ℕ → Splitting
split_of t simplex = by_stars (rule_at t simplex) (new_name t)

abbrev cover_of : Task → ℕ → ℕ → ℕ → List Move → Covering
cover_of t simplex sheets corner moves = by_sheets t (rule_at t simplex) sheets corner moves

first_is : (t : Task) (node : Node) (nodes : List Node) (behind : ℕ × List Node) (tree : Tree) → IsTree tree t → node ∷ nodes ≡ nodes_of tree ++ behind.1 → IsFirst t (node ∷ nodes) behind
first_is t node nodes behind tree is same = (tree, is, same)

sound : (levels : ℕ) (t : Task) → IsSound t (judged levels t)
sound levels t k [] behind h = absurd (no_end (Err (NoNode k)) (NoNode k) behind refl h)
sound zero t k (case_node simplex ∷ nodes) behind h = absurd (no_end (Err (TooLarge k Depth)) (TooLarge k Depth) behind refl h)
sound zero t k (split_node simplex ∷ nodes) behind h = absurd (no_end (Err (TooLarge k Depth)) (TooLarge k Depth) behind refl h)
sound zero t k (cover_node simplex sheets corner moves ∷ nodes) behind h = absurd (no_end (Err (TooLarge k Depth)) (TooLarge k Depth) behind refl h)
sound levels t k (balance_node modulus sum xs ∷ nodes) behind h = by (balance_fault t modulus sum xs) refl h
  where
    by : (o : Option BalanceFault) → balance_fault t modulus sum xs ≡ o → if_balance k nodes o ≡ Ok behind → IsFirst t (balance_node modulus sum xs ∷ nodes) behind
    by None none is = first_is t (balance_node modulus sum xs) nodes behind (balance modulus sum xs) ((exact t modulus sum xs).0 none) (ap (λ ns. balance_node modulus sum xs ∷ ns) (same_behind (suc k) nodes behind (Ok (suc k, nodes)) refl is))
    by (Some fault) some is = absurd (no_end (Err (NoBalance k fault)) (NoBalance k fault) behind refl is)
sound (suc levels) t k (case_node simplex ∷ nodes) behind h = by (nat_lt simplex (length t.delta)) refl h (λ part. sound levels (in_case (rule_at t simplex) part t))
  where
    by : (b : Bool) → nat_lt simplex (length t.delta) ≡ b →
        cond b (each_judged (λ part. judged levels (in_case (rule_at t simplex) part t)) (components (rule_at t simplex)) (suc k) nodes) (Err (NoSimplex k)) ≡ Ok behind →
        ((part : List Tuple) → IsSound (in_case (rule_at t simplex) part t) (judged levels (in_case (rule_at t simplex) part t))) → IsFirst t (case_node simplex ∷ nodes) behind
    by true low is deeper =
        let all = each_sound t (rule_at t simplex) (λ part. judged levels (in_case (rule_at t simplex) part t)) deeper (components (rule_at t simplex)) (suc k) nodes behind is in
        first_is t (case_node simplex) nodes behind (by_cases simplex all.0) (ltb-true simplex (length t.delta) low, all.1) (ap (λ ns. case_node simplex ∷ ns) all.2)
    by false high is deeper = absurd (no_end (Err (NoSimplex k)) (NoSimplex k) behind refl is)
sound (suc levels) t k (split_node simplex ∷ nodes) behind h =
    by t.symmetric refl (nat_lt simplex (length t.delta)) refl h (sound levels (split (split_of t simplex) t))
  where
    by : (same : Bool) → t.symmetric ≡ same → (b : Bool) → nat_lt simplex (length t.delta) ≡ b →
        cond same (Err (Symmetric k)) (cond (not b) (Err (NoSimplex k)) (if_within k (judged levels (split (split_of t simplex) t) (suc k) nodes) (split_fault (split_of t simplex) t))) ≡ Ok behind →
        IsSound (split (split_of t simplex) t) (judged levels (split (split_of t simplex) t)) → IsFirst t (split_node simplex ∷ nodes) behind
    by true same b e is deeper = absurd (no_end (Err (Symmetric k)) (Symmetric k) behind refl is)
    by false plain false high is deeper = absurd (no_end (Err (NoSimplex k)) (NoSimplex k) behind refl is)
    by false plain true low is deeper =
        let rest = deeper (suc k) nodes behind (within_sound k (judged levels (split (split_of t simplex) t) (suc k) nodes) (split_fault (split_of t simplex) t) behind is) in
        first_is t (split_node simplex) nodes behind (by_split simplex rest.0) (plain, ltb-true simplex (length t.delta) low, rest.1) (ap (λ ns. split_node simplex ∷ ns) rest.2)
sound (suc levels) t k (cover_node simplex sheets corner moves ∷ nodes) behind h =
    by t.symmetric refl (nat_lt simplex (length t.delta)) refl (cover_fault (cover_of t simplex sheets corner moves)) refl h (sound levels (covered (cover_of t simplex sheets corner moves) t))
  where
    by : (same : Bool) → t.symmetric ≡ same → (b : Bool) → nat_lt simplex (length t.delta) ≡ b → (o : Option CoverFault) → cover_fault (cover_of t simplex sheets corner moves) ≡ o →
        cond same (Err (Symmetric k)) (cond (not b) (Err (NoSimplex k)) (if_cover k (if_within k (judged levels (covered (cover_of t simplex sheets corner moves) t) (suc k) nodes) (sheets_fault (cover_of t simplex sheets corner moves) t)) o)) ≡ Ok behind →
        IsSound (covered (cover_of t simplex sheets corner moves) t) (judged levels (covered (cover_of t simplex sheets corner moves) t)) → IsFirst t (cover_node simplex sheets corner moves ∷ nodes) behind
    by true same b e o f is deeper = absurd (no_end (Err (Symmetric k)) (Symmetric k) behind refl is)
    by false plain false high o f is deeper = absurd (no_end (Err (NoSimplex k)) (NoSimplex k) behind refl is)
    by false plain true low (Some fault) f is deeper = absurd (no_end (Err (NoCover k fault)) (NoCover k fault) behind refl is)
    by false plain true low None none is deeper =
        let here = ltb-true simplex (length t.delta) low in
        let rest = deeper (suc k) nodes behind (within_sound k (judged levels (covered (cover_of t simplex sheets corner moves) t) (suc k) nodes) (sheets_fault (cover_of t simplex sheets corner moves) t) behind is) in
        first_is t (cover_node simplex sheets corner moves) nodes behind (by_cover simplex sheets corner moves rest.0) (plain, here, (exact_cover t (cover_of t simplex sheets corner moves) (listed_rule t simplex here)).0 none, rest.1) (ap (λ ns. cover_node simplex sheets corner moves ∷ ns) rest.2)

-- ---- what is refused

-- a judge comes to what stands behind a tree, or to a limit
abbrev Reaches : Judged → List Node → Type 0
Reaches j rest = ((k : ℕ) × (j ≡ Ok (k, rest))) ⊎ ((k : ℕ) × (limit : Limit) × (j ≡ Err (TooLarge k limit)))

within_reaches : (k : ℕ) (more : Judged) (o : Option RefineFault) (rest : List Node) → Reaches more rest → Reaches (if_within k more o) rest
within_reaches k more None rest h = h
within_reaches k more (Some fault) rest h = inr (k, limit_of fault, refl)

reach : (j : Judged) (u : Judged) (rest : List Node) → j ≡ u → Reaches u rest → Reaches j rest
reach j u rest same h = subst (λ v. Reaches v rest) (sym same) h

mutual
  complete : (tree : Tree) (t : Task) (levels k : ℕ) (rest : List Node) → IsTree tree t → Reaches (judged levels t k (nodes_of tree ++ rest)) rest
  complete (balance modulus sum xs) t levels k rest is =
      inl (suc k, ap (if_balance k rest) ((exact t modulus sum xs).1 is))
  complete (by_cases simplex trees) t zero k rest is = inr (k, Depth, refl)
  complete (by_split simplex tree) t zero k rest is = inr (k, Depth, refl)
  complete (by_cover simplex sheets corner moves tree) t zero k rest is = inr (k, Depth, refl)
  complete (by_cases simplex trees) t (suc levels) k rest is =
      let of = rule_at t simplex in
      let all = each_judged (λ part. judged levels (in_case of part t)) (components of) (suc k) (nodes_of_each trees ++ rest) in
      reach (cond (nat_lt simplex (length t.delta)) all (Err (NoSimplex k))) all rest
      (ap (λ b. cond b all (Err (NoSimplex k))) (lt-ltb simplex (length t.delta) is.0))
      (each_complete trees t of (components of) levels (suc k) rest is.1)
  complete (by_split simplex tree) t (suc levels) k rest is =
      let s = by_stars (rule_at t simplex) (new_name t) in
      let more = judged levels (split s t) (suc k) (nodes_of tree ++ rest) in
      let all = if_within k more (split_fault s t) in
      reach (cond t.symmetric (Err (Symmetric k)) (cond (not (nat_lt simplex (length t.delta))) (Err (NoSimplex k)) all)) all rest
      (ap (λ b. cond b (Err (Symmetric k)) (cond (not (nat_lt simplex (length t.delta))) (Err (NoSimplex k)) all)) is.0 ∙ ap (λ b. cond (not b) (Err (NoSimplex k)) all) (lt-ltb simplex (length t.delta) is.1))
      (within_reaches k more (split_fault s t) rest (complete tree (split s t) levels (suc k) rest is.2))
  complete (by_cover simplex sheets corner moves tree) t (suc levels) k rest is =
      let c = by_sheets t (rule_at t simplex) sheets corner moves in
      let more = judged levels (covered c t) (suc k) (nodes_of tree ++ rest) in
      let all = if_within k more (sheets_fault c t) in
      let of = if_cover k all in
      reach (cond t.symmetric (Err (Symmetric k)) (cond (not (nat_lt simplex (length t.delta))) (Err (NoSimplex k)) (of (cover_fault c)))) all rest
      (ap (λ b. cond b (Err (Symmetric k)) (cond (not (nat_lt simplex (length t.delta))) (Err (NoSimplex k)) (of (cover_fault c)))) is.0
      ∙ ap (λ b. cond (not b) (Err (NoSimplex k)) (of (cover_fault c))) (lt-ltb simplex (length t.delta) is.1)
      ∙ ap of ((exact_cover t c (listed_rule t simplex is.1)).1 is.2))
      (within_reaches k more (sheets_fault c t) rest (complete tree (covered c t) levels (suc k) rest is.3))

  each_complete : (trees : Trees) (t : Task) (of : Rule) (parts : List (List Tuple)) (levels k : ℕ) (rest : List Node) → AreTrees trees t of parts → Reaches (each_judged (λ part. judged levels (in_case of part t)) parts k (nodes_of_each trees ++ rest)) rest
  each_complete no_tree t of [] levels k rest is = inl (k, refl)
  each_complete no_tree t of (part ∷ parts) levels k rest is = absurd is
  each_complete (tree_before tree trees) t of [] levels k rest is = absurd is
  each_complete (tree_before tree trees) t of (part ∷ parts) levels k rest is =
      let one = λ (q : List Tuple). judged levels (in_case of q t) in
      let later = nodes_of_each trees ++ rest in
      let next = after (each_judged one parts) in
      let apart = append_assoc (nodes_of tree) (nodes_of_each trees) rest in
      reach (next (one part k ((nodes_of tree ++ nodes_of_each trees) ++ rest))) (next (one part k (nodes_of tree ++ later))) rest (ap (λ ns. next (one part k ns)) apart)
      (elim (complete tree (in_case of part t) levels k later is.0) [
        | inl found ↦ reach (next (one part k (nodes_of tree ++ later))) (each_judged one parts found.0 later) rest (ap next found.1) (each_complete trees t of parts levels found.0 rest is.1)
        | inr limit ↦ inr (limit.0, limit.1, ap next limit.2)
      ])

-- ---- in all

-- what is answered of a task whose words may begin with any block, and of few or many nodes
abbrev if_few : Bool → Judged → Option TreeFault
if_few many j = cond many (Some (TooLarge most_nodes Nodes)) (ended j)

pub accepted : (t : Task) (nodes : List Node) → fault_of t nodes ≡ None → (tree : Tree) × (nodes_of tree ≡ nodes) × IsObstruction t tree
accepted t nodes h = by (first_block t == 1) refl (nat_lt most_nodes (length nodes)) (judged most_levels t 0 nodes) refl h
  where
    by : (b : Bool) → (first_block t == 1) ≡ b → (many : Bool) (j : Judged) → judged most_levels t 0 nodes ≡ j → cond (not b) (Some FirstBlock) (if_few many j) ≡ None → (tree : Tree) × (nodes_of tree ≡ nodes) × IsObstruction t tree
    by false other many j is h = absurd (let none : ⊥ = cc in none)
    by true one true j is h = absurd (let none : ⊥ = cc in none)
    by true one false (Err fault) is h = absurd (let none : ⊥ = cc in none)
    by true one false (Ok (k, node ∷ more)) is h = absurd (let none : ⊥ = cc in none)
    by true one false (Ok (k, [])) is h =
        let found = sound most_levels t 0 nodes (k, []) is in
        (found.0, sym (found.2 ∙ append-nil (nodes_of found.0)), record { all_words = eqb-true (first_block t) 1 one; settled = found.1 })

pub refused : (t : Task) (nodes : List Node) (fault : TreeFault) → fault_of t nodes ≡ Some fault → ((k : ℕ) (limit : Limit) → fault ≡ TooLarge k limit → ⊥) →
    (tree : Tree) → nodes_of tree ≡ nodes → IsObstruction t tree → ⊥
refused t nodes fault h no_limit tree same is = by (nat_lt most_nodes (length nodes)) refl
  where
    same_fault : (x y : TreeFault) → Some x ≡ Some y → x ≡ y
    same_fault x y h = cc

    by : (many : Bool) → nat_lt most_nodes (length nodes) ≡ many → ⊥
    by many size =
        let j = judged most_levels t 0 nodes in
        let all : judged most_levels t 0 (nodes_of tree ++ []) ≡ j = ap (judged most_levels t 0) (append-nil (nodes_of tree) ∙ same) in
        let start : fault_of t nodes ≡ if_few many j = ap (λ b. cond (not b) (Some FirstBlock) (if_few (nat_lt most_nodes (length nodes)) j)) (eq-eqb (first_block t) 1 is.all_words) ∙ ap (λ b. if_few b j) size in
        few many (sym start ∙ h) (complete tree t most_levels 0 [] is.settled) all
      where
        few : (b : Bool) → if_few b (judged most_levels t 0 nodes) ≡ Some fault → Reaches (judged most_levels t 0 (nodes_of tree ++ [])) [] → judged most_levels t 0 (nodes_of tree ++ []) ≡ judged most_levels t 0 nodes → ⊥
        few true is come all = no_limit most_nodes Nodes (same_fault fault (TooLarge most_nodes Nodes) (sym is))
        few false is (inl found) all = (let bad : None ≡ Some fault = sym (ap ended (sym all ∙ found.1)) ∙ is in let none : ⊥ = cc in none)
        few false is (inr limit) all = no_limit limit.0 limit.1 (same_fault fault (TooLarge limit.0 limit.1) (sym is ∙ ap ended (sym all ∙ limit.2)))

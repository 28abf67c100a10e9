-- Tuples with names in place of values, column by column.
use Rattle.std.proofs.Common.{◌≡◌, ℕ, suc, ◌+◌, ◌<◌, nat_lt, true, List, [], ◌∷◌, ◌++◌, Result, Err, get_or, length, map, take, sym, ap, ◌∙◌, arith}
use Rattle.std.specs.List.{list_any}
use Rattle.std.proofs.Math.ListN.{set}
use Rattle.std.proofs.Math.Seq.{take-suc-set}
use Rattle.std.proofs.lemmas.List.{get_or-map, length-map, map-append, take_more}
use Rattle.std.proofs.lemmas.List.FromFn.{fill_by_all}
use Rattle.wf_model.specs.Lists.{below}
use Rattle.wf_model.specs.Task.{Tuple}
use Rattle.wf_simplex.proofs.Lemmas.{map-has}
use Rattle.wf_tree_model.specs.Splits.{Splitting, with_names}
use Rattle.wf_tree_refine.specs.Keys.{row_at}
use Rattle.wf_tree_refine.specs.Names.{has_large_name, most_name, row_of}
use Rattle.wf_tree_refine.proofs.Membership.{any_has, has_any}
use Rattle.wf_tree_refine.proofs.Numbers.{range_has}

pub one_fault : {T E : Type 0} (r : Result T E) (x y : E) → r ≡ Err x → r ≡ Err y → x ≡ y
one_fault r x y a b = cc

-- one value more
pub value_put : (values : List ℕ) (columns : List (List ℕ)) (number i x : ℕ) → i < length values → i < length columns → take i values ≡ map (λ column. get_or column number 0) (take i columns) → x ≡ get_or (get_or columns i []) number 0
    → take (i + 1) (set values i x) ≡ map (λ column. get_or column number 0) (take (i + 1) columns)
value_put values columns number i x low inside so_far is =
    let f = λ (column : List ℕ). get_or column number 0 in
    let next : i + 1 ≡ suc i = omega arith in
    ap (λ n. take n (set values i x)) next ∙ take-suc-set values i x low ∙ ap (λ xs. xs ++ x ∷ []) so_far ∙ ap (λ y. map f (take i columns) ++ y ∷ []) is
    ∙ sym (map-append f (take i columns) (get_or columns i [] ∷ [])) ∙ ap (map f) (sym (take_more columns i [] inside))

-- a name that is too large at some place
pub large_at : (s : Splitting) (rows : List Tuple) (place : ℕ) → place < length s.rule.input → list_any (λ tuple. nat_lt most_name (s.name place tuple)) rows ≡ true → list_any (has_large_name s) rows ≡ true
large_at s rows place low h =
    let r = any_has (λ tuple. nat_lt most_name (s.name place tuple)) rows h in
    has_any (has_large_name s) r.0 rows r.1
    (has_any (λ name. nat_lt most_name name) (s.name place r.0) (with_names s r.0) (map-has (λ p. s.name p r.0) place (below (length s.rule.input)) (range_has place 0 (length s.rule.input) (omega arith) (omega (arith, low)))) r.2)

-- all rows, from the names at each place
pub rows_named : (s : Splitting) (rows : List Tuple) (columns : List (List ℕ)) → length columns ≡ length s.rule.input → ((p : ℕ) → p < length columns → get_or columns p [] ≡ map (s.name p) rows)
    → map (row_of columns) (below (length rows)) ≡ map (with_names s) rows
rows_named s rows columns each names =
    sym (fill_by_all (row_of columns) (map (with_names s) rows) (length rows) [] (length-map rows (with_names s))
    (λ k low. get_or-map (with_names s) rows k [] [] low
    ∙ sym (fill_by_all (λ p. s.name p (row_at rows k)) (row_of columns k) (length s.rule.input) 0 (length-map columns (λ column. get_or column k 0) ∙ each)
    (λ p lp. let inside : p < length columns = omega (arith, lp, each) in
    get_or-map (λ column. get_or column k 0) columns p [] 0 inside ∙ ap (λ column. get_or column k 0) (names p inside) ∙ get_or-map (s.name p) rows k [] 0 low))))

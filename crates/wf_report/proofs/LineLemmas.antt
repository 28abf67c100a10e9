-- The step that a line makes, by its words.
use Rattle.std.proofs.Common.{◌≡◌, ℕ, ◌++◌, List, [], ◌∷◌, Bool, true, false, cond, Option, Some, None, option_map, if◌then◌else◌, codes, refl, sym, ◌∙◌, ap}
use Rattle.std.specs.Option.{option_and_then}
use Rattle.std.specs.Cmp.Lexicographic as std
use Rattle.wf_model.specs.Refutation.{Line, remove, empty, branch}
use Rattle.wf_model.specs.Limits.{most_number, most_value}
use Rattle.wf_model.specs.Report.{any_step, is_found, number_upto, same_text, step_of_words}
use Rattle.wf_report.specs.Reading.{lacks}
use Rattle.wf_report.specs.Steps.{removal_of, words}
use Rattle.wf_report.specs.declared.reading.Section.{Section}
use Rattle.wf_report.specs.declared.reading.Section.TheVariants.{Values, Refutation, Search}
use Rattle.wf_report.proofs.ReadLemmas.{more_words, one_word, some_word, spaced, words_cut, words_ended}

-- no line of a refutation says that a map is found
abbrev pub passed : Option Line → Option Line
passed o = option_and_then (λ x. if is_found x then None else Some x) o

-- the step of a line, where it may stand in this part
abbrev pub kept : Section → Option Line → Option Line
kept Values o = None
kept Refutation o = passed o
kept Search o = o

pub step_is : (l : List ℕ) → lacks 10 l ≡ true → any_step (l ++ 10 ∷ []) ≡ step_of_words (words l)
step_is l h = ap (option_and_then step_of_words) (words_ended l h)

-- ---- removals

no_third_value : (e c a : Option ℕ) → a ≡ None → option_and_then (λ x. option_and_then (λ y. option_map (λ z. remove x y z) a) c) e ≡ None
no_third_value None c a h = refl
no_third_value (Some e) None a h = refl
no_third_value (Some e) (Some c) a h = ap (option_map (λ z. remove e c z)) h

pub no_process : (numbers : List ℕ) → lacks 32 numbers ≡ true → step_of_words (codes "p" ∷ words numbers) ≡ None
no_process numbers h = ap (λ ws. step_of_words (codes "p" ∷ ws)) (one_word numbers h)

pub no_third : (numbers e rest : List ℕ) → numbers ≡ e ++ 32 ∷ rest → lacks 32 e ≡ true → lacks 32 rest ≡ true → step_of_words (codes "p" ∷ words numbers) ≡ None
no_third numbers e rest is h k =
    ap (λ ws. step_of_words (codes "p" ∷ ws)) (ap words is ∙ words_cut e rest h) ∙ ap (λ ws. step_of_words (codes "p" ∷ e ∷ ws)) (one_word rest k)

pub three_words : (numbers e rest c a : List ℕ) → numbers ≡ e ++ 32 ∷ rest → lacks 32 e ≡ true → rest ≡ c ++ 32 ∷ a → lacks 32 c ≡ true → step_of_words (codes "p" ∷ words numbers) ≡ removal_of e c a
three_words numbers e rest c a is h rest_is k =
    ap (λ ws. step_of_words (codes "p" ∷ ws)) (ap words is ∙ words_cut e rest h)
    ∙ ap (λ ws. step_of_words (codes "p" ∷ e ∷ ws)) (ap words rest_is ∙ words_cut c a k)
    ∙ by_space (lacks 32 a) refl
  where
    by_space : (t : Bool) → lacks 32 a ≡ t → step_of_words (codes "p" ∷ e ∷ c ∷ words a) ≡ removal_of e c a
    by_space true l = ap (λ ws. step_of_words (codes "p" ∷ e ∷ c ∷ ws)) (one_word a l)
    by_space false l =
        let more = more_words a l in
        ap (λ ws. step_of_words (codes "p" ∷ e ∷ c ∷ ws)) more.words_are
        ∙ sym (no_third_value (number_upto most_number e) (number_upto 3 c) (number_upto most_value a) (spaced most_value a l))

-- ---- lines of one number

too_many_z : (x y : List ℕ) (more : List (List ℕ)) → step_of_words (codes "z" ∷ x ∷ y ∷ more) ≡ None
too_many_z x y [] = refl
too_many_z x y (a ∷ []) = refl
too_many_z x y (a ∷ b ∷ more) = refl

too_many_b : (x y : List ℕ) (more : List (List ℕ)) → step_of_words (codes "b" ∷ x ∷ y ∷ more) ≡ None
too_many_b x y [] = refl
too_many_b x y (a ∷ []) = refl
too_many_b x y (a ∷ b ∷ more) = refl

z_is : (rest : List ℕ) → step_of_words (codes "z" ∷ words rest) ≡ option_map empty (number_upto most_number rest)
z_is rest = by_space (lacks 32 rest) refl
  where
    by_space : (t : Bool) → lacks 32 rest ≡ t → step_of_words (codes "z" ∷ words rest) ≡ option_map empty (number_upto most_number rest)
    by_space true l = ap (λ ws. step_of_words (codes "z" ∷ ws)) (one_word rest l)
    by_space false l =
        let more = more_words rest l in
        ap (λ ws. step_of_words (codes "z" ∷ ws)) more.words_are ∙ too_many_z more.first more.second more.more ∙ sym (ap (option_map empty) (spaced most_number rest l))

b_is : (rest : List ℕ) → step_of_words (codes "b" ∷ words rest) ≡ option_map branch (number_upto most_number rest)
b_is rest = by_space (lacks 32 rest) refl
  where
    by_space : (t : Bool) → lacks 32 rest ≡ t → step_of_words (codes "b" ∷ words rest) ≡ option_map branch (number_upto most_number rest)
    by_space true l = ap (λ ws. step_of_words (codes "b" ∷ ws)) (one_word rest l)
    by_space false l =
        let more = more_words rest l in
        ap (λ ws. step_of_words (codes "b" ∷ ws)) more.words_are ∙ too_many_b more.first more.second more.more ∙ sym (ap (option_map branch) (spaced most_number rest l))

-- ---- other lines

other_word : (w v : List ℕ) (ws : List (List ℕ)) → same_text w (codes "p") ≡ false → same_text w (codes "z") ≡ false → same_text w (codes "b") ≡ false → step_of_words (w ∷ v ∷ ws) ≡ None
other_word w v [] p z b = (λ i. cond (z i) (option_map empty (number_upto most_number v)) (cond (b i) (option_map branch (number_upto most_number v)) None))
other_word w v (c ∷ []) p z b = refl
other_word w v (c ∷ a ∷ []) p z b = ap (λ t. cond t (removal_of v c a) None) p
other_word w v (c ∷ a ∷ x ∷ more) p z b = refl

-- ---- a line

pub no_word : (l : List ℕ) → lacks 10 l ≡ true → lacks 32 l ≡ true → any_step (l ++ 10 ∷ []) ≡ step_of_words (l ∷ [])
no_word l h k = step_is l h ∙ ap step_of_words (one_word l k)

first_word : (l w rest : List ℕ) → lacks 10 l ≡ true → l ≡ w ++ 32 ∷ rest → lacks 32 w ≡ true → any_step (l ++ 10 ∷ []) ≡ step_of_words (w ∷ words rest)
first_word l w rest h is k = step_is l h ∙ ap step_of_words (ap words is ∙ words_cut w rest k)

pub p_line : (l w rest : List ℕ) → lacks 10 l ≡ true → l ≡ w ++ 32 ∷ rest → lacks 32 w ≡ true → same_text w (codes "p") ≡ true → any_step (l ++ 10 ∷ []) ≡ step_of_words (codes "p" ∷ words rest)
p_line l w rest h is k e = first_word l w rest h is k ∙ ap (λ x. step_of_words (x ∷ words rest)) (std.same_text w (codes "p") (sym e))

pub z_line : (l w rest : List ℕ) → lacks 10 l ≡ true → l ≡ w ++ 32 ∷ rest → lacks 32 w ≡ true → same_text w (codes "z") ≡ true → any_step (l ++ 10 ∷ []) ≡ option_map empty (number_upto most_number rest)
z_line l w rest h is k e = first_word l w rest h is k ∙ ap (λ x. step_of_words (x ∷ words rest)) (std.same_text w (codes "z") (sym e)) ∙ z_is rest

pub b_line : (l w rest : List ℕ) → lacks 10 l ≡ true → l ≡ w ++ 32 ∷ rest → lacks 32 w ≡ true → same_text w (codes "b") ≡ true → any_step (l ++ 10 ∷ []) ≡ option_map branch (number_upto most_number rest)
b_line l w rest h is k e = first_word l w rest h is k ∙ ap (λ x. step_of_words (x ∷ words rest)) (std.same_text w (codes "b") (sym e)) ∙ b_is rest

pub other_line : (l w rest : List ℕ) → lacks 10 l ≡ true → l ≡ w ++ 32 ∷ rest → lacks 32 w ≡ true → same_text w (codes "p") ≡ false → same_text w (codes "z") ≡ false → same_text w (codes "b") ≡ false → any_step (l ++ 10 ∷ []) ≡ None
other_line l w rest h is k p z b =
    let behind = some_word rest in
    first_word l w rest h is k ∙ ap (λ ws. step_of_words (w ∷ ws)) behind.2 ∙ other_word w behind.0 behind.1 p z b

-- The numbers of words, one after another.
use Rattle.std.proofs.Common.{◌≡◌, ℕ, List, [], ◌∷◌, ◌++◌, true, Option, Some, None, option_map, refl, sym, ◌∙◌, ap, append_assoc}
use Rattle.std.specs.Option.{option_and_then}
use Rattle.wf_model.specs.Limits.{most_number}
use Rattle.wf_model.specs.Report.{number_upto}
use Rattle.wf_report.specs.Reading.{lacks}
use Rattle.wf_report.specs.Steps.{words}
use Rattle.wf_report.proofs.Lemmas.{one_word, words_cut}
use Rattle.wf_tree_text.specs.Text.{numbers_of_words}

-- the number of a word in front of others
abbrev pub in_front : Option ℕ → Option (List ℕ) → Option (List ℕ)
in_front first rest = option_and_then (λ n. option_map (λ ns. n ∷ ns) rest) first

-- the numbers so far, and those of the words that are left
abbrev pub behind : List ℕ → List ℕ → Option (List ℕ)
behind xs rest = option_map (λ ns. xs ++ ns) (numbers_of_words (words rest))

module _ (xs word others rest : List ℕ) (is : rest ≡ word ++ 32 ∷ others) (h : lacks 32 word ≡ true) where
  front_is : behind xs rest ≡ option_map (λ ns. xs ++ ns) (in_front (number_upto most_number word) (numbers_of_words (words others)))
  front_is = ap (λ ws. option_map (λ ns. xs ++ ns) (numbers_of_words ws)) (ap words is ∙ words_cut word others h)

  pub bad_next : number_upto most_number word ≡ None → behind xs rest ≡ None
  bad_next e = front_is ∙ ap (λ o. option_map (λ ns. xs ++ ns) (in_front o (numbers_of_words (words others)))) e

  pub number_next : (n : ℕ) → number_upto most_number word ≡ Some n → behind xs rest ≡ behind (xs ++ n ∷ []) others
  number_next n e = front_is ∙ ap (λ o. option_map (λ ns. xs ++ ns) (in_front o (numbers_of_words (words others)))) e ∙ one_more (numbers_of_words (words others))
    where
      one_more : (o : Option (List ℕ)) → option_map (λ ns. xs ++ ns) (option_map (λ ns. n ∷ ns) o) ≡ option_map (λ ns. (xs ++ n ∷ []) ++ ns) o
      one_more None = refl
      one_more (Some ns) = ap Some (sym (append_assoc xs (n ∷ []) ns))

pub last_bad : (xs rest : List ℕ) → lacks 32 rest ≡ true → number_upto most_number rest ≡ None → behind xs rest ≡ None
last_bad xs rest h e = ap (λ ws. option_map (λ ns. xs ++ ns) (numbers_of_words ws)) (one_word rest h) ∙ ap (λ o. option_map (λ ns. xs ++ ns) (in_front o (Some []))) e

pub last_number : (xs rest : List ℕ) (n : ℕ) → lacks 32 rest ≡ true → number_upto most_number rest ≡ Some n → behind xs rest ≡ Some (xs ++ n ∷ [])
last_number xs rest n h e = ap (λ ws. option_map (λ ns. xs ++ ns) (numbers_of_words ws)) (one_word rest h) ∙ ap (λ o. option_map (λ ns. xs ++ ns) (in_front o (Some []))) e

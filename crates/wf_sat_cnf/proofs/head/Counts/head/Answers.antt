use Rattle.std.proofs.Common.{◌≡◌, ℕ, List, ◌++◌, ◌∷◌, [], codes, decimal, string_bytes, ap, ◌∙◌, append_assoc}
use Rattle.wf_model.specs.Report.{line}
use Rattle.wf_base.specs.Set.Sets.{values_in}
use Rattle.wf_sat_formula.specs.Dimacs.{numbering_line}
use Rattle.wf_sat_cnf.specs.Exclusions.{line_in}
use Rattle.wf_sat_cnf.specs.Head.{counts_text}
use Rattle.wf_sat_cnf.proofs.head.Counts.head.Goals as goal

-- five pieces, one after the other
five : (start first second third fourth fifth a b c d e : List ℕ) → start ≡ [] → first ≡ start ++ a → second ≡ first ++ b → third ≡ second ++ c → fourth ≡ third ++ d → fifth ≡ fourth ++ e
    → fifth ≡ a ++ (b ++ (c ++ (d ++ e)))
five start first second third fourth fifth a b c d e none one two three four last =
    last
    ∙ ap (λ bs. bs ++ e) (four ∙ ap (λ bs. bs ++ d) (three ∙ ap (λ bs. bs ++ c) (two ∙ ap (λ bs. bs ++ b) (one ∙ ap (λ bs. bs ++ a) none))))
    ∙ append_assoc ((a ++ b) ++ c) d e
    ∙ append_assoc (a ++ b) c (d ++ e)
    ∙ append_assoc a b (c ++ (d ++ e))

numbered : ℕ → List ℕ
numbered n = codes "c variable " ++ (decimal n ++ codes " * point + place of the value\n")

pub returns : goal.returns
unfolding numbered
returns c =
    let values = values_in c.args.values in
    five (string_bytes c.new-text.result) (string_bytes c.put.new.text) (string_bytes c.put_branch.new.text) (string_bytes c.put_values.new.text) (string_bytes c.writeln.new.self) (string_bytes c.writeln-2.new.self)
    (counts_text c.args.self) (line_in c.args.branch) (line (codes "c values") values) (numbering_line values) (line (codes "p cnf") (c.args.self.variables ∷ c.args.self.clauses ∷ []))
    c.new-text.ensures.bytes c.in_ok-put.ensures c.in_ok-put_branch.ensures c.in_ok-put_values.ensures
    (c.in_ok-writeln.ensures.bytes ∙ ap (λ n. string_bytes c.put_values.new.text ++ numbered n) c.count-width.ensures) c.in_ok-writeln-2.ensures.bytes

use Rattle.std.proofs.Common.{ℕ, List, ◌≡◌, ◌++◌, ◌∷◌, decimal, codes, ap, sym, ◌∙◌, append_assoc, string_bytes}
use Rattle.wf_base.specs.Set.Sets.{values_in}
use Rattle.wf_model.specs.Report.{numbers_text}
use Rattle.wf_sat_cnf.proofs.head.put_values.Goals as goal

-- one number more
one_more : (before after left rest whole : List ℕ) (v : ℕ) → after ≡ before ++ 32 ∷ decimal v → left ≡ v ∷ rest → before ++ numbers_text left ≡ whole → after ++ numbers_text rest ≡ whole
one_more before after left rest whole v put next so_far =
    ap (λ bs. bs ++ numbers_text rest) put
    ∙ append_assoc before (32 ∷ decimal v) (numbers_text rest)
    ∙ ap (λ vs. before ++ numbers_text vs) (sym next)
    ∙ so_far

pub values-init : goal.values-init
values-init c =
    ap (λ bs. bs ++ numbers_text (values_in c.args.values)) c.in_ok-write.ensures.bytes
    ∙ append_assoc (string_bytes c.args.text.now) (codes "c values") (numbers_text (values_in c.args.values))

pub values-preserved : goal.values-preserved
values-preserved c =
    one_more (string_bytes c.values.text) (string_bytes c.write-in-Some.new.self) (values_in c.values.left) (values_in c.in-Some.next.1) _ c.in-Some.next.0
    c.in_ok-write-2.ensures.bytes c.in-Some.ensures c.values.invariant

pub returns : goal.returns
returns c = c.in_ok-writeln.ensures.bytes ∙ ap (λ vs. string_bytes c.values.text ++ numbers_text vs) (sym c.in_default.ensures) ∙ c.values.invariant

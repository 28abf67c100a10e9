use Rattle.std.proofs.Common.{◌≡◌, ◌∙◌, Ok, ap, map, subst, sym}
use Rattle.std.specs.Prelude.{string_bytes}
use Rattle.std.specs.Result.{result_from_control_flow}
use Rattle.wf_cli.specs.Words.Asked.{Answers, IsAsked}
use Rattle.wfverify.specs.Checker.Asked.{job_asked}
use Rattle.wfverify.proofs.checker.checker.job_of.Goals as goal

pub returns : goal.returns
returns c =
    let is : c.args.words ≡ Ok c.in_ok-words.field-0 = c.branch-words.ensures ∙ ap result_from_control_flow c.in_ok-words.is in
    subst (λ words. IsAsked job_asked words c.read_words.result) (sym is)
    (subst (λ words. Answers (job_asked (map string_bytes words)) c.read_words.result) c.deref.ensures.value c.read_words.ensures)

-- From what the parser finds to what the words ask for.
use Rattle.std.proofs.Common.{◌≡◌, ◌∙◌, refl, sym, subst, ap, List, [], Result, Err, true}
use Rattle.std.specs.List.{list_any}
use Rattle.clap.specs.Words.{App, Text, fault_of, found_of, is_simple_and_free, matches_of, rows_of}
use Rattle.clap.specs.declared.parser.matches.ArgMatches.{ArgMatches}
use Rattle.clap.proofs.OnLiterals.{clap_on_literals}
use Rattle.wf_cli.specs.Words.Asked.{Answers, IsRefusal, IsTaken, is_negative}
use Rattle.wf_cli.specs.declared.words.fault.WordsFault.{WordsFault}
use Rattle.wf_cli.proofs.OfWords.Lemmas as words
use Rattle.wfverify.specs.Checker.Asked.{check_asked, job_asked}
use Rattle.wfverify.specs.Checker.CommandLine.{command_line}
use Rattle.wfverify.specs.declared.checker.job.CheckJob.{CheckJob}

free : is_simple_and_free command_line ≡ true
unfolding clap_on_literals
free = refl

pub is_free : (app : App) → app ≡ command_line → is_simple_and_free app ≡ true
is_free app is = ap is_simple_and_free is ∙ free

-- what the options ask for, where the words are taken
pub answered : (app : App) (texts : List Text) (m : ArgMatches) (result : Result CheckJob WordsFault) → app ≡ command_line → IsTaken app texts m
    → Answers (check_asked (rows_of (found_of m))) result → Answers (job_asked texts) result
answered app texts m result is taken h =
    let none : fault_of command_line texts ≡ [] = sym (ap (λ a. fault_of a texts) is) ∙ taken.0 in
    let rows : rows_of (found_of m) ≡ matches_of command_line texts = taken.1 ∙ ap (λ a. matches_of a texts) is in
    words.taken_answered (fault_of command_line texts) (list_any is_negative texts) (check_asked (matches_of command_line texts)) result none
    (subst (λ r. Answers (check_asked r) result) rows h)

pub refused : (app : App) (texts : List Text) (e : WordsFault) → app ≡ command_line → IsRefusal (fault_of app texts) (list_any is_negative texts) e
    → Answers (job_asked texts) (Err e)
refused app texts e is h =
    words.refused_answered (fault_of command_line texts) (list_any is_negative texts) (check_asked (matches_of command_line texts)) e
    (subst (λ a. IsRefusal (fault_of a texts) (list_any is_negative texts) e) is h)

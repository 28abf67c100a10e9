-- From what the parser finds to what the words ask for.
use Rattle.std.proofs.Common.{◌≡◌, ◌∙◌, refl, sym, subst, ap, List, [], Option, Result, Err, true}
use Rattle.std.specs.List.{list_any}
use Rattle.clap.specs.Words.{App, Row, Text, fault_of, is_simple_and_free, subcommand_of, subcommand_rows_of}
use Rattle.clap.specs.declared.parser.matches.ArgMatches.{ArgMatches}
use Rattle.clap.proofs.OnLiterals.{clap_on_literals}
use Rattle.wf_cli.specs.Words.Asked.{Answers, IsRefusal, IsTaken, is_negative}
use Rattle.wf_cli.specs.declared.words.fault.WordsFault.{WordsFault}
use Rattle.wf_cli.proofs.OfWords.Lemmas as words
use Rattle.wf_cli_args.specs.Asked.{asked_in, job_asked}
use Rattle.wf_cli_args.specs.CommandLine.{command_line}
use Rattle.wf_cli_args.specs.declared.asked.Job.{Job}

-- ---- the parser

free : is_simple_and_free command_line ≡ true
unfolding clap_on_literals
free = refl

pub is_free : (app : App) → app ≡ command_line → is_simple_and_free app ≡ true
is_free app is = ap is_simple_and_free is ∙ free

pub taken : (app : App) (texts : List Text) (m : ArgMatches) → app ≡ command_line → IsTaken app texts m
    → (fault_of command_line texts ≡ []) × (subcommand_rows_of m ≡ subcommand_of command_line texts)
taken app texts m is h = (sym (ap (λ a. fault_of a texts) is) ∙ h.0, h.2 ∙ ap (λ a. subcommand_of a texts) is)

pub refuses : (app : App) (texts : List Text) (e : WordsFault) → app ≡ command_line → IsRefusal (fault_of app texts) (list_any is_negative texts) e
    → IsRefusal (fault_of command_line texts) (list_any is_negative texts) e
refuses app texts e is h = subst (λ a. IsRefusal (fault_of a texts) (list_any is_negative texts) e) is h

-- ---- the whole answer

-- what the subcommand asks for, where the words are taken
pub answered : (texts : List Text) (found : Option (Text × List Row)) (result : Result Job WordsFault) → fault_of command_line texts ≡ []
    → found ≡ subcommand_of command_line texts → Answers (asked_in found) result → Answers (job_asked texts) result
answered texts found result taken same h =
    words.taken_answered (fault_of command_line texts) (list_any is_negative texts) (asked_in (subcommand_of command_line texts)) result taken
    (subst (λ f. Answers (asked_in f) result) same h)

pub refused_answered : (texts : List Text) (e : WordsFault) → IsRefusal (fault_of command_line texts) (list_any is_negative texts) e
    → Answers (job_asked texts) (Err e)
refused_answered texts e h =
    words.refused_answered (fault_of command_line texts) (list_any is_negative texts) (asked_in (subcommand_of command_line texts)) e h

-- Bytes that have a JSON value, and bytes that have none.
use Rattle.std.proofs.Common.{◌≡◌, ℕ, List, [], None, Some, Option, option_and_then, Result, Ok, Err, Bool, true, false, refl, ap, ◌∙◌, ◌≤◌, arith}
use Rattle.std.specs.Result.{result_ok}
use Rattle.std.specs.Str.{IsUtf8, is_utf8}
use Rattle.std.proofs.lemmas.Str.{IsUtf8-from_is_utf8, is_utf8-from_IsUtf8}
use Rattle.json.specs.Lex.{tokens}
use Rattle.json.specs.Json.{if_last, value}
use Rattle.serde_json.specs.Data.{Data}
use Rattle.serde_json.specs.Read.{of_json, read}
use Rattle.wf_task_parse.specs.declared.fault.TaskFault.{TaskFault}
use Rattle.wf_task_parse.specs.declared.fault.TaskFault.TheVariants.{NotJson}
use Rattle.wf_task_parse.specs.RawTask.{Listed, ◌>>=◌, or_fault, draft_of}
use Rattle.wf_task_parse.specs.Plain.{data_at, Takes}
use Rattle.wf_task_parse.specs.Text.{json_of, draft_in}
use Rattle.wf_task_parse.proofs.ConvertedValues.{converted_some}

pub json_of-some : (bytes : List ℕ) (d : Data) → IsUtf8 bytes → read bytes ≡ Some d → json_of bytes ≡ Some d
unfolding json_of
json_of-some bytes d u e = rw (is_utf8-from_IsUtf8 bytes u) e

refused : (bytes : List ℕ) (b : Bool) → is_utf8 bytes ≡ b → (IsUtf8 bytes → read bytes ≡ None) → json_of bytes ≡ None
unfolding json_of
refused bytes true is none = rw is (none (IsUtf8-from_is_utf8 bytes is))
refused bytes false is none = rw is refl

pub json_of-none : (bytes : List ℕ) → (IsUtf8 bytes → read bytes ≡ None) → json_of bytes ≡ None
json_of-none bytes none = refused bytes (is_utf8 bytes) refl none

abbrev ok_or_that : Listed → Option Listed → Result Listed TaskFault
ok_or_that z None = Ok z
ok_or_that z (Some w) = Ok w

found_ok : (r : Result Listed TaskFault) (x : Listed) → result_ok r ≡ Some x → r ≡ Ok x
found_ok (Ok y) x e = ap (ok_or_that y) e
found_ok (Err f) x e = cc

-- a text whose tokens are those of a draft
pub draft_of_tokens : (bytes : List ℕ) (x : Listed) → IsUtf8 bytes → Takes (λ d. result_ok (draft_of d)) 5 (tokens bytes) x [] → draft_in bytes ≡ Ok x
draft_of_tokens bytes x u t =
    let enough : 5 ≤ 127 = omega arith in
    let d = converted_some (λ e. result_ok (draft_of e)) (data_at 127 (tokens bytes)) x [] (t 127 enough) in
    let j = converted_some of_json (value 127 (tokens bytes)) d.0 [] d.1 in
    let whole : read bytes ≡ Some d.0 = ap (λ o. option_and_then of_json (option_and_then (λ p. if_last p.0 p.1) o)) j.1 ∙ j.2 in
    ap (λ o. or_fault NotJson o >>= draft_of) (json_of-some bytes d.0 u whole) ∙ found_ok (draft_of d.0) x d.2

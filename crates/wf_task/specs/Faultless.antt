-- Drafts that were read and judged.
use Rattle.std.specs.Prelude.{◌≡◌, ◌==◌, true, false, length, Ok}
use Rattle.wf_model.specs.Simplex.{complex_of}
use Rattle.wf_task_parse.specs.RawTask.{Listed}
use Rattle.wf_task_parse.specs.Listed.{ListsVertices}
use Rattle.wf_task.specs.Judge.{is_first_block, numbers_judged, sizes_judged, entries_judged, tuples_judged}

-- what the judgement of a draft without a fault went through
pub record IsFaultless (listed : Listed) : Type 0 where
  pub vertices : ListsVertices listed
  pub numbers : numbers_judged listed ≡ Ok tt
  pub sizes : sizes_judged listed (complex_of listed.inputs) ≡ Ok tt
  pub entries : entries_judged listed (complex_of listed.inputs) ≡ Ok tt
  pub tuples : tuples_judged listed (complex_of listed.inputs) ≡ Ok tt
  pub input : (length listed.inputs == 0) ≡ false
  pub first_block : is_first_block listed.least_block ≡ true

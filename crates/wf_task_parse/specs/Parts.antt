-- How many values a JSON value has, with those inside it.
use Rattle.std.specs.Prelude.{ℕ, suc, ◌+◌, ◌≤◌, Option, None, Some}
use Rattle.serde_json.specs.Data.{Data, null, boolean, number, string, array, object, Items, no_items, item, Members, no_members, member}
use Rattle.wf_model.specs.Limits.{most_bytes}

abbrev mutual
  pub parts : Data → ℕ
  parts null = 1
  parts (boolean b) = 1
  parts (number n) = 1
  parts (string s) = 1
  parts (array ds) = suc (item_parts ds)
  parts (object ms) = suc (member_parts ms)

  pub item_parts : Items → ℕ
  item_parts no_items = 0
  item_parts (item d ds) = parts d + item_parts ds

  pub member_parts : Members → ℕ
  member_parts no_members = 0
  member_parts (member k d ms) = parts d + member_parts ms

-- a value that a text of at most 16,777,216 bytes may have: a value for each byte, and one more
abbrev pub IsOfText : Data → Type 0
IsOfText d = parts d ≤ most_bytes + 1

-- a value that is a part of such a value, if it is there
abbrev pub IsPart : Option Data → Type 0
IsPart None = Unit {0}
IsPart (Some d) = parts d ≤ most_bytes

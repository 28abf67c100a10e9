-- The two kinds of tables: columns where each value is below 64, and else rows.
use Rattle.std.specs.Prelude.{ℕ}
use Rattle.wf_lane.specs.Table.{Table}
use Rattle.wf_lane.specs.Rows.{IsStored, table_in}
use Rattle.wf_lane.specs.Wide.{AreKept}
use Rattle.wf_lane.specs.declared.table.Kind.{Kind}
use Rattle.wf_lane.specs.declared.table.Kind.TheVariants.{Narrow, Wide}

-- the table that is kept
abbrev pub table_of_kind : ℕ → Kind → Table
table_of_kind width (Narrow columns) = table_in width columns
table_of_kind width (Wide rows) = record { width = width; rows = rows.items }

-- what each table keeps
abbrev pub IsKind : ℕ → Kind → Type 0
IsKind width (Narrow columns) = IsStored width columns
IsKind width (Wide rows) = AreKept width rows.items

-- What contracts say of a table of views. A table is seen as the list of its
-- views in the order of their numbers.
use Rattle.std.specs.Prelude.{◌≡◌, ◌≤◌, ℕ, ◌^◌, Bool, List, [], ◌∷◌, ◌++◌, map, length, get_or, bit_or, Option, Some, None, if◌then◌else◌}
use Rattle.std.specs.List.{list_any}
use Rattle.wf_model.specs.Lists.{distinct}
use Rattle.wf_model.specs.View.{View, base, seen, Views, no_views, view, views_of, process_of, same_view}

-- the view of this number
abbrev pub view_at : List View → ℕ → View
view_at vs n = get_or vs n (base 0 0)

-- the view of a process that saw these, by their numbers
abbrev pub view_seen : List View → ℕ → List ℕ → View
view_seen vs p ids = seen p (views_of (map (view_at vs) ids))

-- the processes of the views of these numbers
abbrev pub processes_at : List View → List ℕ → List ℕ
processes_at vs ids = map (λ k. process_of (view_at vs k)) ids

-- the table with this view: as it was where the view stands in it, else with the view at its end
abbrev pub with_view : List View → View → List View
with_view vs v = if list_any (same_view v) vs then vs else vs ++ v ∷ []

-- the table with this view where the test holds, and else as it was
abbrev pub with_view_if : Bool → List View → View → List View
with_view_if test vs v = if test then with_view vs v else vs

-- the new table goes on from the old one by at most n views
abbrev pub GrowsByAtMost : ℕ → List View → List View → Type 0
GrowsByAtMost n old new = (more : List View) × (new ≡ old ++ more) × (length more ≤ n)

abbrev pub list_of : Views → List View
list_of no_views = []
list_of (view v vs) = v ∷ list_of vs

-- the value of an input
abbrev pub input_of : View → Option ℕ
input_of (base p x) = Some x
input_of (seen p vs) = None

-- what a view saw: nothing, where it is an input
abbrev pub inner_views : View → List View
inner_views (base p x) = []
inner_views (seen p vs) = list_of vs

-- the processes that occur in a view, at any depth: bit p is set where process p does
abbrev mutual
  pub process_bits : View → ℕ
  process_bits (base p x) = 2 ^ p
  process_bits (seen p vs) = bit_or (2 ^ p) (process_bits_of_each vs)

  pub process_bits_of_each : Views → ℕ
  process_bits_of_each no_views = 0
  process_bits_of_each (view v vs) = bit_or (process_bits v) (process_bits_of_each vs)

-- the view itself and all views inside it, at every depth
abbrev mutual
  pub views_within : View → List View
  views_within (base p x) = base p x ∷ []
  views_within (seen p vs) = seen p vs ∷ views_within_each vs

  pub views_within_each : Views → List View
  views_within_each no_views = []
  views_within_each (view v vs) = views_within v ++ views_within_each vs

-- how many different views those are
abbrev pub count_within : View → ℕ
count_within v = length (distinct same_view (views_within v))

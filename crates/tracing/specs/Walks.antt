-- A walk along a line: on each axis how far it has come and when its next crossing is.
use Rattle.std.specs.Prelude.{◌≡◌, ℕ, ◌+◌, ◌-◌, ◌*◌, ◌^◌, ◌<◌, ◌≤◌, Bool, true, false, cond, ◌&&◌, ◌||◌, List, MatchOption, Option, ◌==◌, nat_le, nat_lt, slice_index}
use Rattle.voxels.specs.Space.{voxel_at, voxel_count}
use Rattle.voxels.specs.declared.space.Axis.{Axis}
use Rattle.voxels.specs.declared.space.Axis.TheVariants.{X, Y, Z}
use Rattle.voxels.specs.declared.space.Position.{Position}
use Rattle.voxels.specs.declared.space.Voxel.{Voxel}
use Rattle.tracing.specs.declared.walks.AxisWalk.{AxisWalk}
use Rattle.tracing.specs.declared.walks.Walk.{Walk}
use Rattle.tracing.specs.Lines.{crossings, reach, span, along, goes_up, same_voxel}
use Rattle.tracing.specs.Marks.{passed_mark}

-- an axis of the line from o to p after n of its crossings
abbrev pub axis_at : Position → Position → ℕ → ℕ → AxisWalk
axis_at o p a n = record { up = goes_up o p a; coordinate = along o p a n; left = crossings o p a - n; reach = reach o p a n; span = span o p a }

-- the walk after as many crossings of each axis as n says
abbrev pub walk_at : Position → Position → (ℕ → ℕ) → Walk
walk_at o p n = record { x = axis_at o p 0 (n 0); y = axis_at o p 1 (n 1); z = axis_at o p 2 (n 2) }

-- one crossing on
abbrev pub crossed : AxisWalk → AxisWalk
crossed a = record { up = a.up; coordinate = cond a.up (a.coordinate + 1) (a.coordinate - 1); left = a.left - 1; reach = a.reach + 64; span = a.span }

-- up to the last crossing that is left on an axis, its numbers fit those that the code holds
pub record AxisHasRoom (a : AxisWalk) : Type 0 where
  pub reach_fits : a.reach + 64 * a.left < 2 ^ 16
  pub coordinate_fits : a.up ≡ true → a.coordinate + a.left < 2 ^ 16
  pub coordinate_down : a.up ≡ false → a.left ≤ a.coordinate

-- the same on every axis
pub record HasRoom (w : Walk) : Type 0 where
  pub x : AxisHasRoom w.x
  pub y : AxisHasRoom w.y
  pub z : AxisHasRoom w.z

-- crossings that are left, on all axes
abbrev pub crossings_left : Walk → ℕ
crossings_left w = w.x.left + w.y.left + w.z.left

-- the next crossing of a comes no later than that of b, where b has one
abbrev pub leads : AxisWalk → AxisWalk → Bool
leads a b = b.left == 0 || (nat_lt 0 a.left && nat_le (a.reach * b.span) (b.reach * a.span))

-- the axis of the next crossing
abbrev pub next_of : Walk → Axis
next_of w = cond (leads w.x w.y) (cond (leads w.x w.z) X Z) (cond (leads w.y w.z) Y Z)

-- the walk with one crossing of an axis more
abbrev pub crossed_on : Walk → Axis → Walk
crossed_on w X = record { x = crossed w.x; y = w.y; z = w.z }
crossed_on w Y = record { x = w.x; y = crossed w.y; z = w.z }
crossed_on w Z = record { x = w.x; y = w.y; z = crossed w.z }

-- the voxel that the walk is in
abbrev pub current_voxel : Walk → Voxel
current_voxel w = record { x = w.x.coordinate; y = w.y.coordinate; z = w.z.coordinate }

-- while crossings are left, a step gives the voxel that the walk is in and takes the next of them
abbrev pub StepsOn : Walk → Option Voxel → Walk → Type 0
StepsOn w r w' = MatchOption r ((crossings_left w ≡ 0) × (w' ≡ w)) (λ v. (0 < crossings_left w) × (v ≡ current_voxel w) × (w' ≡ crossed_on w (next_of w)))

-- the word at an index after one voxel is marked as passed
abbrev pub marked_word : ℕ → Voxel → List ℕ → ℕ → ℕ
marked_word depth v page i = cond (nat_lt i (voxel_count depth) && same_voxel v (voxel_at depth i)) (passed_mark (slice_index page i)) (slice_index page i)

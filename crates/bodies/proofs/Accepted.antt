-- A body that is taken is one that a map writes, and its states write it again.
use Rattle.std.proofs.Common.{◌≡◌, ℕ, ◌^◌, true, List, [], ◌∷◌, length, sym, refl, ap, ◌∙◌, append-nil, arith}
use mathlib.Core.Path.{fun_ext}
use lib.ListN.{get_or-eq_default}
use Rattle.stores.specs.Sweeps.{became}
use Rattle.voxels.proofs.Blocks.{count_depth}
use Rattle.voxels.specs.Cells.{in_range, state_of}
use Rattle.voxels.specs.Refusals.{taken}
use Rattle.voxels.specs.Space.{is_depth, voxel_count}
use Rattle.voxels.specs.declared.cells.Cell.{Cell}
use Rattle.voxels.specs.declared.cells.State.{State}
use Rattle.voxels.specs.declared.cells.State.TheVariants.{Unknown, Free, Occupied}
use Rattle.bodies.specs.Bodies.{body_of}
use Rattle.bodies.specs.Readings.{Reading, read, wrong, read_body, read_pair, whole_of}
use Rattle.bodies.specs.Theorems.{Writable, WritesBack, listed}
use Rattle.bodies.specs.Loads.{state_cell}
use Rattle.bodies.proofs.Packing.{Bytes}
use Rattle.bodies.proofs.ReadBack.{read_written}
use Rattle.bodies.proofs.ReadFacts.{states_long}

-- a reading that is taken ends where the bytes do
taken_ends : (reading : Reading) (states : List State) → whole_of reading ≡ taken states → (next : ℕ) × (reading ≡ read states next [])
taken_ends (read others next []) states e = let same : others ≡ states = cc in (next, ap (λ s. read s next []) same)
taken_ends (read others next (b ∷ bs)) states e = let z : ◌≡◌ {A = ℕ} 0 1 = cc in absurd (omega arith)
taken_ends (wrong number place) states e = let z : ◌≡◌ {A = ℕ} 0 1 = cc in absurd (omega arith)

body_taken : (depth : ℕ) (body : List ℕ) (states : List State) → read_body depth body ≡ taken states → (next : ℕ) × (read_pair depth true 0 body ≡ read states next [])
unfolding read_body
body_taken depth body states e = taken_ends (read_pair depth true 0 body) states e

pub taken_long : (depth : ℕ) (body : List ℕ) (states : List State) → read_body depth body ≡ taken states → length states ≡ 8 ^ depth
taken_long depth body states e = let r = body_taken depth body states e in states_long depth true 0 body states r.0 [] r.1

pub taken_again : (depth : ℕ) (body : List ℕ) (states : List State) → Bytes body → read_body depth body ≡ taken states → body_of depth (listed states) 0 ≡ body
taken_again depth body states b e =
    let r = body_taken depth body states e in
    sym ((read_written depth true 0 body states r.0 [] b r.1).0 ∙ append-nil (body_of depth (listed states) 0))

-- what a body says, written, is that body again
pub writes_back : (depth : ℕ) (body : List ℕ) → Bytes body → WritesBack depth body
writes_back depth body b is states e = taken_again depth body states b e

-- a cell of that state
abbrev cell_of : State → Cell
cell_of s = became (state_cell s) Cell.Unknown

cell_ranged : (s : State) → in_range (cell_of s) ≡ true
cell_ranged Unknown = refl
cell_ranged Free = refl
cell_ranged Occupied = refl

cell_state : (s : State) → state_of (cell_of s) ≡ s
cell_state Unknown = refl
cell_state Free = refl
cell_state Occupied = refl

pub accepted_writable : (depth : ℕ) (body : List ℕ) (states : List State) → is_depth depth ≡ true → Bytes body → read_body depth body ≡ taken states → Writable depth body
accepted_writable depth body states is b e =
    let long : length states ≡ voxel_count depth = taken_long depth body states e ∙ sym (count_depth depth is) in
    record {
      cells = λ i. cell_of (listed states i);
      map = record {
        is_map = is;
        ranged = λ i. cell_ranged (listed states i);
        outside = λ i h. ap cell_of (get_or-eq_default states State.Unknown (omega arith));
      };
      writes = ap (λ s. body_of depth s 0) (fun_ext (λ i. cell_state (listed states i))) ∙ taken_again depth body states b e;
    }

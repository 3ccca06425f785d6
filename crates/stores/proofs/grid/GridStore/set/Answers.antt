use Rattle.std.proofs.Common.{sym, refl, ◌∙◌, arith}
use Rattle.stores.specs.Grids.{grid_cell, grid_shape}
use Rattle.voxels.specs.Cells.{put}
use Rattle.stores.proofs.SetAnswers.{answer_not_open, answer_out_of_range, answer_taken}
use Rattle.stores.proofs.GridCells.{grid_open, grid_not_open, grid_limit, grid_put}
use Rattle.voxels.proofs.Indices.{count_above}
use Rattle.stores.proofs.grid.GridStore.set.Goals as goal

pub returns-then-index-voxel_count-clause-done : goal.returns-then-index-voxel_count-clause-done
returns-then-index-voxel_count-clause-done c =
    record {
      tells = rw c.into.ensures (sym (answer_not_open (grid_shape c.args.self.now.depth) _ _ _ (grid_not_open c.args.self.now.depth c.args.index (omega arith))));
      leaves = λ j. refl;
    }

pub returns-then-not-in_range-clause-done : goal.returns-then-not-in_range-clause-done
returns-then-not-in_range-clause-done c =
    record {
      tells = rw c.into-then-not-in_range.ensures (sym (answer_out_of_range (grid_shape c.args.self.now.depth) _ _ _ (grid_open c.args.self.now.depth c.args.index (omega arith)) (sym c.in_range.ensures ∙ c.if-not-in_range.true)));
      leaves = λ j. refl;
    }

pub returns-clause-done : goal.returns-clause-done
returns-clause-done c =
    let depth = c.args.self.now.depth in
    let words = c.args.self.now.words.now in
    let i = c.args.index in
    let map = count_above depth i (omega arith) in
    let ranged = sym c.in_range.ensures ∙ c.if-not-in_range.false in
    record {
      tells = sym (answer_taken (grid_shape depth) _ _ _ (grid_open depth i (omega arith)) ranged (grid_limit depth (put (grid_cell depth words) i c.args.value) map.0 map.1));
      leaves = grid_put depth words i c.word.result c.args.value (omega arith) c.args.self.now.fits (c.word.ensures.back ranged);
    }

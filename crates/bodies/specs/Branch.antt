-- What a map writes for a cube above the voxels.
use Rattle.std.specs.Prelude.{ℕ, ◌-◌, List}
use Rattle.bodies.specs.Bodies.{body_of, child_codes}
use Rattle.bodies.specs.Writes.{word_states}
use Rattle.bodies.specs.declared.writer.Branch.{Branch}

-- the codes of its children
abbrev pub branch_code : Branch → ℕ → ℕ
branch_code branch = child_codes (branch.cube.level - 1) (word_states branch.words.now) branch.cube.first

-- its pair and all that is under it
abbrev pub branch_body : Branch → List ℕ
branch_body branch = body_of branch.cube.level (word_states branch.words.now) branch.cube.first

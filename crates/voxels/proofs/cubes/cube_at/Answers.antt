use Rattle.std.proofs.Common.{◌≡◌, ℕ, ◌/◌, ◌*◌, ◌^◌, ◌<◌, SomeIff, sym, ◌∙◌, subst}
use Rattle.voxels.specs.Cubes.{OnlyOnPath}
use Rattle.voxels.proofs.Blocks.{only_on_path}
use Rattle.voxels.proofs.Indices.{shifted}
use Rattle.voxels.proofs.cubes.cube_at.Goals as goal

pub returns : goal.returns
returns c =
    let level = c.args.level in
    let index = c.args.index in
    let value : c.unwrap_or.result ≡ index / 8 ^ level = c.unwrap_or.ensures ∙ shifted index level c.ranges.index.fits c.checked_shr.result (subst (λ l. SomeIff c.checked_shr.result (3 * l < 64) (index / 2 ^ (3 * l))) c.from.ensures c.checked_shr.ensures) in
    let P : ℕ → Type 0 = OnlyOnPath level index in
    record { value = value; path = subst P (sym value) (only_on_path level index) }

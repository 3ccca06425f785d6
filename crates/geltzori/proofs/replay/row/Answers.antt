use Rattle.std.proofs.Common.{◌≡◌, IfOk, List, ℕ, ap, arith, rules, string_bytes, subst}
use Rattle.std.proofs.lemmas.Iterator.{YieldsList-from_map, YieldsList-from_range, text_from_collect}
use Rattle.geltzori.specs.Pictures.{in_row}
use Rattle.geltzori.proofs.Rows.{row_bytes}
use Rattle.voxels.specs.Space.{side}
use Rattle.geltzori.proofs.replay.row.Goals as goal

pub returns : goal.returns
returns g c =
    let shape = g.S.Store.shape c.args.store.now in
    let cell = g.S.Store.cell c.args.store.now in
    let numbers = YieldsList-from_range 0 c.side.result (side shape.depth) c.map.ensures.source (omega (arith, ap side c.depth.ensures)) in
    subst (λ (text : List ℕ). IfOk c.collect.result (λ s. string_bytes s ≡ text)) (row_bytes shape cell c.args.y c.args.z)
    (text_from_collect c.collect.result c.collect.ensures.ran
    (YieldsList-from_map _ (in_row shape cell c.args.y c.args.z) numbers c.map.ensures.closure (λ x r q k. search rules)))

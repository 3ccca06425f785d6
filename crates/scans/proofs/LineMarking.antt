-- The marks after one line more.
use Rattle.std.proofs.Common.{◌≡◌, ℕ, ◌*◌, ◌/◌, ◌<◌, ◌≤◌, Bool, true, false, cond, ◌&&◌, ◌||◌, ltb, List, ◌∷◌, length, get_or, Some, None, refl, ap, ◌∙◌, ap₂, arith}
use Rattle.std.proofs.lemmas.Bool.{and_from, and_parts, le-leb, lt-ltb, ltb-true, not-false}
use Rattle.voxels.specs.Space.{in_map, side, voxel_at, voxel_count, voxel_of}
use Rattle.voxels.specs.declared.space.Position.{Position}
use Rattle.tracing.specs.Lines.{passes, same_voxel}
use Rattle.tracing.specs.Marks.{ended_word, passed_mark, traceable, traced_word}
use Rattle.scans.specs.LineMarks.{MarkedBy, mark_by}
use Rattle.scans.specs.Scans.{is_hit_by, is_passed_by, seen_by}
use Rattle.scans.specs.Sweeps.{mark_event}
use Rattle.scans.specs.Texts.{Return, outside, since}
use Rattle.voxels.specs.declared.cells.Event.TheVariants.{Hit, Miss}
use Rattle.voxels.specs.declared.space.Voxel.{Voxel}

-- a line more by its two tests: whether it hits, and whether it passes
mark_law : (e h q p : Bool) → cond e 2 (cond q (passed_mark (cond h 2 (cond p 1 0))) (cond h 2 (cond p 1 0))) ≡ cond (e || h) 2 (cond (q || p) 1 0)
mark_law true h q p = refl
mark_law false true true p = refl
mark_law false true false p = refl
mark_law false false true true = refl
mark_law false false true false = refl
mark_law false false false p = refl

pub line_marked : (depth : ℕ) (o p : Position) (rs : List Return) (is_hit : Bool) (page traced marked : List ℕ) → MarkedBy depth (since o rs) page → traceable depth o p page ≡ true → ((i : ℕ) → get_or traced i 0 ≡ traced_word depth o p page i) → ((i : ℕ) → i < voxel_count depth → get_or marked i 0 ≡ cond (is_hit && same_voxel (voxel_of p) (voxel_at depth i)) 2 (get_or traced i 0)) → MarkedBy depth (since o (record { is_hit = is_hit; end = p } ∷ rs)) marked
line_marked depth o p rs is_hit page traced marked before can traces marks k inside =
    let v = voxel_at depth k in
    let e = is_hit && same_voxel (voxel_of p) v in
    let q = passes o p v in
    let w = mark_by o rs v in
    let within : (traceable depth o p page && (ltb k (voxel_count depth) && q)) ≡ q = ap₂ (λ a b. a && (b && q)) can (lt-ltb k (voxel_count depth) inside) in
    let was : get_or traced k 0 ≡ cond q (passed_mark w) w =
    traces k ∙ ap (λ b. cond b (passed_mark (get_or page k 0)) (get_or page k 0)) within ∙ ap (λ m. cond q (passed_mark m) m) (before k inside) in
    marks k inside ∙ ap (λ m. cond e 2 m) was ∙ mark_law e (is_hit_by rs v) q (is_passed_by o rs v)

-- what the mark of a voxel says is what was seen of it
mark_event_lem : (h p : Bool) → mark_event (cond h 2 (cond p 1 0)) ≡ cond h (Some Hit) (cond p (Some Miss) None)
mark_event_lem true p = refl
mark_event_lem false true = refl
mark_event_lem false false = refl

pub marks_say : (o : Position) (rs : List Return) (v : Voxel) → mark_event (mark_by o rs v) ≡ seen_by o rs v
marks_say o rs v = mark_event_lem (is_hit_by rs v) (is_passed_by o rs v)

in_map_lem : (depth : ℕ) (p : Position) → outside depth p ≡ false → in_map depth (voxel_of p) ≡ true
in_map_lem depth p inside =
    let s = side depth in
    let all = not-false ((ltb p.x (64 * s) && ltb p.y (64 * s)) && ltb p.z (64 * s)) inside in
    let xy = and_parts (ltb p.x (64 * s) && ltb p.y (64 * s)) (ltb p.z (64 * s)) all in
    let x = and_parts (ltb p.x (64 * s)) (ltb p.y (64 * s)) xy.0 in
    let within : (n : ℕ) → ltb n (64 * s) ≡ true → ltb (n / 64) s ≡ true = λ n h. lt-ltb (n / 64) s (omega (arith, ltb-true n (64 * s) h)) in
    and_from _ _ (and_from _ _ (within p.x x.0) (within p.y x.1)) (within p.z xy.1)

module _ (depth : ℕ) (o p : Position) (page : List ℕ) (long : voxel_count depth ≤ length page) where
  pub can_trace : outside depth o ≡ false → outside depth p ≡ false → traceable depth o p page ≡ true
  can_trace from to = and_from _ _ (and_from _ _ (in_map_lem depth o from) (in_map_lem depth p to)) (le-leb (voxel_count depth) (length page) long)

  pub ended_inside : (k : ℕ) → k < voxel_count depth → ended_word depth p page k ≡ cond (same_voxel (voxel_of p) (voxel_at depth k)) 2 (get_or page k 0)
  ended_inside k inside =
      let b = same_voxel (voxel_of p) (voxel_at depth k) in
      ap₂ (λ x y. cond (x && (y && b)) 2 (get_or page k 0)) (le-leb (voxel_count depth) (length page) long) (lt-ltb k (voxel_count depth) inside)

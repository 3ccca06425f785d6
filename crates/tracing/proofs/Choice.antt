-- A step of the walk: the axis that it takes is that of the first crossing left, and the walk stays what its crossings say.
use Rattle.std.proofs.Common.{◌≡◌, ℕ, suc, ◌+◌, ◌-◌, ◌*◌, ◌^◌, ◌<◌, ◌≤◌, Bool, true, false, cond, refl, ⊎_elim, arith, lit<}
use Rattle.std.proofs.lemmas.Bool.{cases_eq, ltb-false, ltb-true}
use Rattle.std.proofs.lemmas.Bool.Decides.{nat_tests}
use Rattle.voxels.specs.declared.space.Position.{Position}
use Rattle.voxels.specs.declared.space.Axis.{Axis}
use Rattle.voxels.specs.declared.space.Axis.TheVariants.{X, Y, Z}
use Rattle.tracing.specs.Lines.{tick, crossings, reach, span, before}
use Rattle.tracing.specs.Walks.{AxisHasRoom, HasRoom, axis_at, crossed, crossed_on, crossings_left, leads, next_of, walk_at}
use Rattle.tracing.proofs.Order.{fraction_order, reach_more, span_above, not_itself, not_before, not_before_since, First, bump}

abbrev pub number : Axis → ℕ
number X = 0
number Y = 1
number Z = 2

module _ (o p : Position) where
  pub crossed_is : (a n : ℕ) → n < crossings o p a → crossed (axis_at o p a n) ≡ axis_at o p a (n + 1)
  crossed_is a n h = grind (arith, nat_tests, reach_more o p a n h)

  pub crossed_on_lem : (n : ℕ → ℕ) (d : Axis) → n (number d) < crossings o p (number d) → crossed_on (walk_at o p n) d ≡ walk_at o p (bump (number d) n)
  crossed_on_lem n X h = let here = crossed_is 0 (n 0) h in cc
  crossed_on_lem n Y h = let here = crossed_is 1 (n 1) h in cc
  crossed_on_lem n Z h = let here = crossed_is 2 (n 2) h in cc

  axis_room : (a : ℕ) → tick a o < 2048 → tick a p < 2048 → AxisHasRoom (axis_at o p a 0)
  axis_room a small small' = record {
    reach_fits = reach_fits;
    coordinate_fits = λ e. let up = ltb-true (tick a o) (tick a p) e in simp e (omega arith);
    coordinate_down = λ e. let down = ltb-false (tick a o) (tick a p) e in simp e (omega arith);
  }
    where
      reach_fits : reach o p a 0 + 64 * (crossings o p a - 0) < 2 ^ 16
      reach_fits = grind (arith, nat_tests)

  -- a line between positions of a map can be walked
  pub room : ((a : ℕ) → tick a o < 2048) → ((a : ℕ) → tick a p < 2048) → HasRoom (walk_at o p (λ _. 0))
  room small small' = record {
    x = axis_room 0 (small 0) (small' 0);
    y = axis_room 1 (small 1) (small' 1);
    z = axis_room 2 (small 2) (small' 2);
  }

  -- of the crossings that come next on the axes below m, that of s is the first, where there is one
  FirstOf : (ℕ → ℕ) → ℕ → ℕ → Type 0
  FirstOf n m s = (s < m) × ((b : ℕ) → b < m → n b < crossings o p b → (n s < crossings o p s) × (before o p b (n b) s (n s) ≡ false))

  leads_over : (ℕ → ℕ) → ℕ → ℕ → Bool
  leads_over n a b = leads (axis_at o p a (n a)) (axis_at o p b (n b))

  first_one : (n : ℕ → ℕ) → FirstOf n 1 0
  unfolding FirstOf
  first_one n = (lit< tt, λ b h left. (let e : b ≡ 0 = omega arith in rw e at left, let e : b ≡ 0 = omega arith in rw e (not_itself o p 0 (n 0))))

  leads_true : (n : ℕ → ℕ) (a b : ℕ) → leads_over n a b ≡ true → n b < crossings o p b → (n a < crossings o p a) × (reach o p a (n a) * span o p b ≤ reach o p b (n b) * span o p a)
  unfolding leads_over
  leads_true n a b h left = (grind (arith, nat_tests), grind (arith, nat_tests))

  leads_false : (n : ℕ → ℕ) (a b : ℕ) → leads_over n a b ≡ false → (n b < crossings o p b) × (n a < crossings o p a → reach o p b (n b) * span o p a < reach o p a (n a) * span o p b)
  unfolding leads_over
  leads_false n a b h = (grind (arith, nat_tests), λ left. grind (arith, nat_tests))

  first_stays : (n : ℕ → ℕ) (m s : ℕ) → FirstOf n m s → leads_over n s m ≡ true → FirstOf n (suc m) s
  unfolding FirstOf
  first_stays n m s first h = (omega (arith, first.0), stays)
    where
      stays : (b : ℕ) → b < suc m → n b < crossings o p b → (n s < crossings o p s) × (before o p b (n b) s (n s) ≡ false)
      stays b below left = (grind (arith, nat_tests, first.1 b, leads_true n s m h, cases_eq b m), grind (arith, nat_tests, first.0, first.1 b, leads_true n s m h, not_before o p m (n m) s (n s), cases_eq b m))

  first_moves : (n : ℕ → ℕ) (m s : ℕ) → FirstOf n m s → leads_over n s m ≡ false → FirstOf n (suc m) m
  unfolding FirstOf
  first_moves n m s first h = (omega arith, λ b below left. (new.0, ⊎_elim (λ (e : b ≡ m). rw e (not_itself o p m (n m))) (λ (e : b ≡ m → ⊥). other b (omega arith) left) (cases_eq b m)))
    where
      new : (n m < crossings o p m) × (n s < crossings o p s → reach o p m (n m) * span o p s < reach o p s (n s) * span o p m)
      new = leads_false n s m h

      other : (b : ℕ) → b < m → n b < crossings o p b → before o p b (n b) m (n m) ≡ false
      other b below left =
          let old = first.1 b below left in
          let later = not_before_since o p b (n b) s (n s) old.1 in
          let less = fraction_order (reach o p m (n m)) (span o p m) (reach o p s (n s)) (span o p s) (reach o p b (n b)) (span o p b) (span_above o p b (n b) left) (new.1 old.0) later in
          not_before o p b (n b) m (n m) (omega (arith, less)) (λ e. absurd (omega (arith, less, e)))

  first_of_all : (n : ℕ → ℕ) → FirstOf n 3 (number (next_of (walk_at o p n)))
  unfolding leads_over
  first_of_all n = by_leads (leads_over n 0 1) (leads_over n 0 2) (leads_over n 1 2) refl refl refl
    where
      by_leads : (xy xz yz : Bool) → leads_over n 0 1 ≡ xy → leads_over n 0 2 ≡ xz → leads_over n 1 2 ≡ yz → FirstOf n 3 (number (cond xy (cond xz X Z) (cond yz Y Z)))
      by_leads true true yz exy exz eyz = first_stays n 2 0 (first_stays n 1 0 (first_one n) exy) exz
      by_leads true false yz exy exz eyz = first_moves n 2 0 (first_stays n 1 0 (first_one n) exy) exz
      by_leads false xz true exy exz eyz = first_stays n 2 1 (first_moves n 1 0 (first_one n) exy) eyz
      by_leads false xz false exy exz eyz = first_moves n 2 1 (first_moves n 1 0 (first_one n) exy) eyz

  -- while crossings are left, the walk takes the first of them
  pub first_next : (n : ℕ → ℕ) → 0 < crossings_left (walk_at o p n) → First o p n (number (next_of (walk_at o p n)))
  unfolding FirstOf
  first_next n h = record { axis = all.0; some_left = some_left; none_before = λ b axis left. (all.1 b axis left).1 }
    where
      s : ℕ
      s = number (next_of (walk_at o p n))

      all : FirstOf n 3 s
      all = first_of_all n

      some_left : n s < crossings o p s
      some_left = grind (arith, nat_tests)

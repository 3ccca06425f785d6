-- A work page under its guard.
use Rattle.std.proofs.Common.{◌≡◌, ℕ, ◌+◌, ◌-◌, ◌<◌, ◌≤◌, cond, eqb, ltb, leb, ◌⊎◌, List, ◌++◌, length, get_or, drop, replicate, sym, ap, ◌∙◌, ap₂, inl, inr, ⊎_elim, arith}
use Rattle.std.proofs.lemmas.List.{ext_get_or, get_or_append_left, get_or-append_right, get_or-drop, get_or-replicate, length-drop, length-replicate}
use Rattle.std.proofs.lemmas.Bool.{cases_eq, cases_lt, cond-false, cond-true, eq-eqb, le-leb, le-ltb, lt-leb, lt-ltb, ne_eqb}
use Rattle.voxels.specs.Pages.{guarded, over_page, wiped}
use Rattle.voxels.specs.Refusals.{Told, taken, refused}
use Rattle.voxels.specs.Space.{voxel_count}

-- a page that is long enough
module _ (depth : ℕ) (page : List ℕ) (long : voxel_count depth ≤ length page) where
  pub guarded_whole : guarded depth page ≡ voxel_count depth
  guarded_whole = cond-true (leb (voxel_count depth) (length page)) (voxel_count depth) 0 (le-leb (voxel_count depth) (length page) long)

  pub wiped_front : (k : ℕ) → k < voxel_count depth → get_or (wiped (guarded depth page) page) k 0 ≡ 0
  wiped_front k inside =
      ap (λ n. get_or (wiped n page) k 0) guarded_whole
      ∙ get_or_append_left (replicate (voxel_count depth) 0) (drop (voxel_count depth) page) 0 k (simp length-replicate inside)
      ∙ get_or-replicate (voxel_count depth) k 0 0 inside

  pub wiped_rest : (k : ℕ) → voxel_count depth ≤ k → get_or (wiped (guarded depth page) page) k 0 ≡ get_or page k 0
  wiped_rest k past =
      let n = voxel_count depth in
      let at : n + (k - n) ≡ k = omega arith in
      ap (λ m. get_or (wiped m page) k 0) guarded_whole
      ∙ get_or-append_right (replicate n 0) (drop n page) n k 0 (length-replicate n 0) past
      ∙ get_or-drop n page (k - n) 0
      ∙ ap (λ m. get_or page m 0) at

  -- a guard over words that differ from the page in front alone leaves what one over the page would
  pub same_wiped : (words : List ℕ) → length words ≡ length page → ((k : ℕ) → voxel_count depth ≤ k → get_or words k 0 ≡ get_or page k 0) → wiped (guarded depth words) words ≡ wiped (guarded depth page) page
  same_wiped words len rest =
      let n = voxel_count depth in
      let front : guarded depth words ≡ guarded depth page = ap (λ m. cond (leb n m) n 0) len in
      let drops : drop n words ≡ drop n page =
      ext_get_or 0 (drop n words) (drop n page) (simp length-drop (ap (λ m. m - n) len)) (λ i h. get_or-drop n words i 0 ∙ rest (n + i) (omega arith) ∙ sym (get_or-drop n page i 0)) in
      ap (λ m. wiped m words) (front ∙ guarded_whole) ∙ ap (λ ws. replicate n 0 ++ ws) drops ∙ sym (ap (λ m. wiped m page) guarded_whole)

  -- what a guard over such words, made for the same depth, left
  pub guard_left : (words left : List ℕ) (held : ℕ) → held ≡ depth → length words ≡ length page → ((k : ℕ) → voxel_count depth ≤ k → get_or words k 0 ≡ get_or page k 0) → left ≡ wiped (guarded held words) words → left ≡ wiped (guarded depth page) page
  guard_left words left held same len rest is = is ∙ ap (λ d. wiped (guarded d words) words) same ∙ same_wiped words len rest

-- a page that is left: at no depth, or too short
pub left_alone : (depth : ℕ) (page : List ℕ) → guarded depth page ≡ 0 → page ≡ wiped (guarded depth page) page
left_alone depth page none = sym (ap (λ m. wiped m page) none)

pub guarded_none : (page : List ℕ) (depth : ℕ) → depth ≡ 0 → guarded depth page ≡ 0
guarded_none page depth is = ap (λ d. guarded d page) is ∙ cond-true (leb 0 (length page)) 0 0 (le-leb 0 (length page) (omega arith))

pub guarded_short : (page : List ℕ) (depth : ℕ) → length page < voxel_count depth → guarded depth page ≡ 0
guarded_short page depth short = cond-false (leb (voxel_count depth) (length page)) (voxel_count depth) 0 (lt-leb (voxel_count depth) (length page) short)

-- the refusals that come before anything else
module _ {A : Type 0} (depth words : ℕ) (answer : Told A) where
  pub over_no_map : depth ≡ 0 → over_page depth words answer ≡ refused 1 0
  unfolding over_page
  over_no_map none = cond-true (eqb depth 0) _ _ (eq-eqb depth 0 none)

  pub over_short : (depth ≡ 0 → ⊥) → words < voxel_count depth → over_page depth words answer ≡ refused 2 0
  unfolding over_page
  over_short some-map short = cond-false (eqb depth 0) _ _ (ne_eqb depth 0 some-map) ∙ cond-true (ltb words (voxel_count depth)) _ _ (lt-ltb words (voxel_count depth) short)

  pub over_enough : 1 ≤ depth → voxel_count depth ≤ words → over_page depth words answer ≡ answer
  unfolding over_page
  over_enough some-map long = cond-false (eqb depth 0) _ _ (ne_eqb depth 0 (λ e. omega arith)) ∙ cond-false (ltb words (voxel_count depth)) _ _ (le-ltb words (voxel_count depth) long)

-- which of the three it is
by_page : (depth words : ℕ) → (depth ≡ 0) ⊎ (((depth ≡ 0 → ⊥) × (words < voxel_count depth)) ⊎ ((1 ≤ depth) × (voxel_count depth ≤ words)))
by_page depth words =
    ⊎_elim
    inl
    (λ some-map. inr (⊎_elim (λ short. inl (some-map, short)) (λ long. inr (omega arith, long)) (cases_lt words (voxel_count depth))))
    (cases_eq depth 0)

-- a page that was found long enough for a depth that was told
pub page_taken : (depth words : ℕ) {held : ℕ} → held ≡ depth → taken tt ≡ over_page {A = Unit {0}} held words (taken tt) → (1 ≤ depth) × (voxel_count depth ≤ words)
page_taken depth words same told =
    let e : taken tt ≡ over_page {A = Unit {0}} depth words (taken tt) = told ∙ ap (λ d. over_page d words (taken tt)) same in
    ⊎_elim
    (λ none. absurd (clash (e ∙ over_no_map depth words (taken tt) none)))
    (λ rest. ⊎_elim
    (λ short. absurd (clash (e ∙ over_short depth words (taken tt) short.0 short.1)))
    (λ enough. enough)
    rest)
    (by_page depth words)
  where
    clash : {n p : ℕ} → ◌≡◌ {A = Told (Unit {0})} (taken tt) (refused n p) → ⊥
    clash q = let z : ◌≡◌ {A = ℕ} 0 1 = cc in omega arith

-- what a refused page is refused by, and that it is left
pub page_refused : {A : Type 0} (depth : ℕ) (page : List ℕ) (number place : ℕ) (answer : Told A) {held : ℕ} → held ≡ depth → refused number place ≡ over_page {A = Unit {0}} held (length page) (taken tt) → (refused number place ≡ over_page depth (length page) answer) × (page ≡ wiped (guarded depth page) page)
page_refused {A} depth page number place answer same told =
    let e : refused number place ≡ over_page {A = Unit {0}} depth (length page) (taken tt) = told ∙ ap (λ d. over_page d (length page) (taken tt)) same in
    ⊎_elim
    (λ none. (again 1 0 (e ∙ over_no_map depth (length page) (taken tt) none) ∙ sym (over_no_map depth (length page) answer none), left_alone depth page (guarded_none page depth none)))
    (λ rest. ⊎_elim
    (λ short. (again 2 0 (e ∙ over_short depth (length page) (taken tt) short.0 short.1) ∙ sym (over_short depth (length page) answer short.0 short.1), left_alone depth page (guarded_short page depth short.1)))
    (λ enough. absurd (clash (e ∙ over_enough depth (length page) (taken tt) enough.0 enough.1)))
    rest)
    (by_page depth (length page))
  where
    again : (n p : ℕ) → ◌≡◌ {A = Told (Unit {0})} (refused number place) (refused n p) → ◌≡◌ {A = Told A} (refused number place) (refused n p)
    again n p q = let a : number ≡ n = cc in let b : place ≡ p = cc in ap₂ refused a b

    clash : ◌≡◌ {A = Told (Unit {0})} (refused number place) (taken tt) → ⊥
    clash q = let z : ◌≡◌ {A = ℕ} 0 1 = cc in omega arith

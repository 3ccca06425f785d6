-- What a fill tells, case by case, and what runs without a fault are.
use Rattle.std.proofs.Common.{◌≡◌, ℕ, zero, suc, ◌+◌, ◌*◌, ◌%◌, ◌<◌, ◌≤◌, Bool, true, false, cond, not, eqb, ltb, leb, List, [], length, get_or, drop, is_some, Some, None, sym, ap, ap₂, ◌∙◌, ⊎_elim, subst, arith, lit<}
use Rattle.std.specs.List.{list_any}
use Rattle.std.specs.Simd.{first_chunks}
use Rattle.std.proofs.lemmas.List.{get_or-drop, get_or-take}
use Rattle.std.proofs.lemmas.List.Elements.{All-from_get_or}
use Rattle.std.proofs.lemmas.List.Folds.{list_any_at, list_any_none}
use Rattle.std.proofs.lemmas.Bool.{and_right, both_ways, cases_Bool, cases_lt, cond-false, cond-true, eq-eqb, eqb-true, false_from_ne_true, le-ltb, lt-ltb, ne_eqb, not_from_false, not_from_true}
use Rattle.std.proofs.lemmas.Bool.Decides.{nat_tests}
use Rattle.voxels.specs.Bounded.{first, some}
use Rattle.voxels.specs.Refusals.{Told, taken, refused}
use Rattle.voxels.proofs.Bounds.{first_at, first_none, some_fails, some_none}
use Rattle.stores.specs.Masks.{Ordered, fill_answer, in_run, least_offset, no_run, pair_count, pair_fault, pair_run, refused_for, run_end, run_fault}
use Rattle.stores.specs.declared.mask.Run.{Run}

module _ (bytes : List ℕ) where
  pub fill_ragged : (length bytes % 4 ≡ 0 → ⊥) → fill_answer bytes ≡ refused 19 0
  unfolding fill_answer
  fill_ragged odd = cond-true _ _ _ (not_from_false _ (ne_eqb _ _ odd))

  whole : {rest : Told (Unit {0})} → length bytes % 4 ≡ 0 → cond (not (eqb (length bytes % 4) 0)) (refused 19 0) rest ≡ rest
  whole even = cond-false _ _ _ (not_from_true _ (eq-eqb _ _ even))

  pub fill_many : length bytes % 4 ≡ 0 → 16 < pair_count bytes → fill_answer bytes ≡ refused 20 0
  unfolding fill_answer
  fill_many even many = whole even ∙ cond-true _ _ _ (lt-ltb 16 (pair_count bytes) many)

  pub fill_wrong : (k number : ℕ) → length bytes % 4 ≡ 0 → pair_count bytes ≤ 16 → k < pair_count bytes → ((j : ℕ) → j < k → pair_fault bytes j ≡ None) → pair_fault bytes k ≡ Some number → fill_answer bytes ≡ refused number (4 * k)
  unfolding fill_answer
  fill_wrong k number even few inside before fault =
      let P : ℕ → Bool = λ p. is_some (pair_fault bytes p) in
      let found : first (pair_count bytes) P ≡ Some k = first_at (pair_count bytes) P k inside (ap is_some fault) (λ j below. ap is_some (before j below)) in
      whole even ∙ (cond-false _ _ _ (le-ltb 16 (pair_count bytes) few) ∙ rw found (ap (λ f. refused_for f (4 * k)) fault))

  pub fill_right : length bytes % 4 ≡ 0 → pair_count bytes ≤ 16 → ((j : ℕ) → j < pair_count bytes → pair_fault bytes j ≡ None) → fill_answer bytes ≡ taken tt
  unfolding fill_answer
  fill_right even few none =
      let P : ℕ → Bool = λ p. is_some (pair_fault bytes p) in
      let found : first (pair_count bytes) P ≡ None = first_none (pair_count bytes) P (λ j below. ap is_some (none j below)) in
      whole even ∙ (cond-false _ _ _ (le-ltb 16 (pair_count bytes) few) ∙ rw found)

-- a run without a fault
pub right_run : (run : Run) (least : ℕ) → run_fault run least ≡ None → (1 ≤ run.length) × (least ≤ run.offset) × (run_end run ≤ 32768)
right_run run least e = (grind (arith, nat_tests), grind (arith, nat_tests), grind (arith, nat_tests))

-- runs that are those of pairs without a fault, with empty ones behind, stand in order
pub in_order : (bytes : List ℕ) (runs : List Run) (n : ℕ) → ((k : ℕ) → k < n → get_or runs k no_run ≡ pair_run bytes k) → ((k : ℕ) → n ≤ k → get_or runs k no_run ≡ no_run) → ((k : ℕ) → k < n → pair_fault bytes k ≡ None) → Ordered runs
in_order bytes runs n read empty none k some =
    let at : (j : ℕ) → j < n → (1 ≤ (get_or runs j no_run).length) × (least_offset bytes j ≤ (get_or runs j no_run).offset) × (run_end (get_or runs j no_run) ≤ 32768) =
    λ j below.
    let P : Run → Type 0 = λ run. (1 ≤ run.length) × (least_offset bytes j ≤ run.offset) × (run_end run ≤ 32768) in
    subst P (sym (read j below)) (right_run (pair_run bytes j) (least_offset bytes j) (none j below)) in
    ⊎_elim
    (λ here. (
      (at k here).2,
      λ j before.
          let ahead : j < n = omega (arith, before, here) in
          let least : least_offset bytes k ≡ run_end (pair_run bytes j) + 1 = ap (least_offset bytes) (sym before) in
          ((at j ahead).0, omega (arith, (at k here).1, least, ap run_end (read j ahead))),
    ))
    (λ beyond. absurd (let z : (get_or runs k no_run).length ≡ 0 = ap (λ (r : Run). r.length) (empty k beyond) in omega (arith, z, some)))
    (cases_lt k n)

-- a number of a chunk is one of the whole row
chunk_at : (xs : List ℕ) (count p j : ℕ) → p < count → j < 4 → get_or (get_or (first_chunks 4 count xs) p []) j 0 ≡ get_or xs (4 * p + j) 0
chunk_at xs zero p j inside few = absurd (omega arith)
chunk_at xs (suc count) zero j inside few = get_or-take 4 xs j 0 few ∙ ap (λ k. get_or xs k 0) (omega arith)
chunk_at xs (suc count) (suc p) j inside few =
    chunk_at (drop 4 xs) count p j (omega arith) few ∙ get_or-drop 4 xs (4 * p + j) 0 ∙ ap (λ k. get_or xs k 0) (omega arith)

pub chunk_run : (bytes : List ℕ) (count p : ℕ) → p < count → pair_run (get_or (first_chunks 4 count bytes) p []) 0 ≡ pair_run bytes p
chunk_run bytes count p inside =
    let at = chunk_at bytes count p in
    let first : get_or (get_or (first_chunks 4 count bytes) p []) 0 0 ≡ get_or bytes (4 * p) 0 = at 0 inside (lit< tt) ∙ ap (λ k. get_or bytes k 0) (omega arith) in
    same_run (ap₂ (λ a b. a + 256 * b) first (at 1 inside (lit< tt))) (ap₂ (λ a b. a + 256 * b) (at 2 inside (lit< tt)) (at 3 inside (lit< tt)))
  where
    same_run : {a b c d : ℕ} → a ≡ c → b ≡ d → ◌≡◌ {A = Run} (record { offset = a; length = b }) (record { offset = c; length = d })
    same_run p q = cc

-- runs of which the first n have a test of their own and the rest fail it
pub any_of_first : (runs : List Run) (n : ℕ) (p : Run → Bool) (q : ℕ → Bool) → n ≤ length runs → ((k : ℕ) → k < n → p (get_or runs k no_run) ≡ q k) → ((k : ℕ) → n ≤ k → p (get_or runs k no_run) ≡ false) → list_any p runs ≡ some n q
any_of_first runs n p q room same none =
    ⊎_elim
    (λ has. ⊎_elim
    (λ any. any ∙ sym has)
    (λ fails. absurd (both_ways (some n q) (some_none n q (λ k h. false_from_ne_true (q k) (λ t. both_ways (list_any p runs) fails (list_any_at p runs k no_run (omega (arith, room, h)) (same k h ∙ t))))) has))
    (cases_Bool (list_any p runs)))
    (λ lacks.
    list_any_none p runs (All-from_get_or (λ r. p r ≡ false) runs no_run (λ k h. ⊎_elim (λ below. same k below ∙ some_fails n q lacks k below) (λ beyond. none k beyond) (cases_lt k n)))
    ∙ sym lacks)
    (cases_Bool (some n q))

pub no_run_holds : (i : ℕ) → in_run no_run i ≡ false
no_run_holds i = and_right (leb 0 i) (ltb i 0) (le-ltb i 0 (omega arith))

-- nothing is left behind the chunks
pub no_rest : (left all : ℕ) → left ≡ all → true ≡ eqb left 0 → all ≡ 0
no_rest left all is empty = sym is ∙ eqb-true left 0 (sym empty)

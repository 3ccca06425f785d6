-- Of a mask's runs the first that ends past an index decides whether it is closed, and behind the first empty one all are empty.
use Rattle.std.proofs.Common.{◌≡◌, ℕ, zero, suc, ◌<◌, ◌≤◌, false, leb, ltb, List, length, get_or, sym, refl, ap, ◌∙◌, ⊎_elim, arith}
use Rattle.std.proofs.lemmas.Bool.{and_left, and_right, cases_Bool, cases_eq, cases_lt, le-ltb, lt-leb}
use Rattle.std.proofs.lemmas.List.Elements.{All-from_get_or}
use Rattle.std.proofs.lemmas.List.Folds.{list_any_at, list_any_none}
use Rattle.stores.specs.Masks.{Ordered, closed_by, in_run, no_run, run_end}
use Rattle.stores.specs.declared.mask.Run.{Run}

pub ends_before : (run : Run) (i : ℕ) → run_end run ≤ i → in_run run i ≡ false
ends_before run i past = and_right (leb run.offset i) (ltb i (run_end run)) (le-ltb i (run_end run) past)

begins_past : (run : Run) (i : ℕ) → i < run.offset → in_run run i ≡ false
begins_past run i ahead = and_left (leb run.offset i) (ltb i (run_end run)) (lt-leb run.offset i ahead)

empty_holds : (run : Run) (i : ℕ) → run.length ≡ 0 → in_run run i ≡ false
empty_holds run i none =
    ⊎_elim
    (λ below. begins_past run i below)
    (λ above. ends_before run i (omega (arith, above, none)))
    (cases_lt i run.offset)

module _ (runs : List Run) (n i : ℕ) (ordered : Ordered runs) where
  empty_behind : (get_or runs n no_run).length ≡ 0 → (k : ℕ) → n ≤ k → (get_or runs k no_run).length ≡ 0
  empty_behind none zero past = let at : zero ≡ n = omega arith in ap (λ m. (get_or runs m no_run).length) at ∙ none
  empty_behind none (suc k) past =
      ⊎_elim
      (λ here. ap (λ m. (get_or runs m no_run).length) here ∙ none)
      (λ later. ⊎_elim
      (λ some. absurd (let before = empty_behind none k (omega arith) in let has = ((ordered (suc k) some).1 k refl).0 in omega (arith, before, has)))
      (λ empty. omega (arith, empty))
      (cases_lt 0 (get_or runs (suc k) no_run).length))
      (cases_eq (suc k) n)

  -- runs that have an index, from one on that ends past i, end past it
  end_past : i < run_end (get_or runs n no_run) → (k : ℕ) → n ≤ k → 1 ≤ (get_or runs k no_run).length → i < run_end (get_or runs k no_run)
  end_past ends zero past some = let at : n ≡ zero = omega arith in let same = ap (λ m. run_end (get_or runs m no_run)) at in omega (arith, ends, same)
  end_past ends (suc k) past some =
      ⊎_elim
      (λ here. let same = ap (λ m. run_end (get_or runs m no_run)) here in omega (arith, ends, same))
      (λ later.
      let ahead = (ordered (suc k) some).1 k refl in
      let before = end_past ends k (omega arith) ahead.0 in
      omega (arith, ahead.1, before))
      (cases_eq (suc k) n)

  behind_past : i < run_end (get_or runs n no_run) → (k : ℕ) → n < k → in_run (get_or runs k no_run) i ≡ false
  behind_past ends zero past = absurd (omega arith)
  behind_past ends (suc k) past =
      ⊎_elim
      (λ some.
      let ahead = (ordered (suc k) some).1 k refl in
      let before = end_past ends k (omega arith) ahead.0 in
      begins_past (get_or runs (suc k) no_run) i (omega (arith, ahead.1, before)))
      (λ empty. empty_holds (get_or runs (suc k) no_run) i (omega (arith, empty)))
      (cases_lt 0 (get_or runs (suc k) no_run).length)

-- none of the first n holds the index
module _ (runs : List Run) (n i : ℕ) (asked : (j : ℕ) → j < n → in_run (get_or runs j no_run) i ≡ false) where
  pub closed_by_none : ((k : ℕ) → n ≤ k → k < length runs → in_run (get_or runs k no_run) i ≡ false) → false ≡ closed_by runs i
  closed_by_none rest = sym (list_any_none (λ run. in_run run i) runs (All-from_get_or (λ run. in_run run i ≡ false) runs no_run (λ k h. ⊎_elim (λ below. asked k below) (λ past. rest k past h) (cases_lt k n))))

  -- and the next is empty
  pub closed_by_used : Ordered runs → (get_or runs n no_run).length ≡ 0 → false ≡ closed_by runs i
  closed_by_used ordered none = closed_by_none (λ k past h. empty_holds (get_or runs k no_run) i (empty_behind runs n i ordered none k past))

  -- and the next ends past the index
  pub closed_by_one : Ordered runs → n < length runs → i < run_end (get_or runs n no_run) → in_run (get_or runs n no_run) i ≡ closed_by runs i
  closed_by_one ordered inside ends =
      ⊎_elim
      (λ holds. holds ∙ sym (list_any_at (λ run. in_run run i) runs n no_run inside holds))
      (λ fails. fails ∙ closed_by_none (λ k past h. ⊎_elim (λ here. ap (λ m. in_run (get_or runs m no_run) i) here ∙ fails) (λ other. behind_past runs n i ordered ends k (omega (arith, past, other))) (cases_eq k n)))
      (cases_Bool (in_run (get_or runs n no_run) i))

-- Why a pair is refused, by what was tested.
use Rattle.std.proofs.Common.{◌≡◌, ℕ, ◌<◌, Bool, true, false, cond, not, ◌&&◌, eqb, ◌≢◌, Some, None, Option, sym, ap, ◌∙◌, ap₂, ⊎_elim, arith, lit<}
use Rattle.std.proofs.lemmas.Bool.{and_from, and_left, and_right, cases_Bool, cond-true, cond-false, eq-eqb, ne_eqb, not_from_false}
use Rattle.bodies.specs.Readings.{pair_fault}
use Rattle.voxels.proofs.Bounds.{all_holds, all_same, some_same}
use Rattle.voxels.specs.Bounded.{all, some}

module _ (level : ℕ) (root : Bool) (code : ℕ → ℕ) where
  abbrev pub deep : Bool
  deep = eqb level 1 && some 8 (λ j. eqb (code j) 3)

  abbrev unmerged : Bool
  unmerged = not root && (not (eqb (code 0) 3) && all 8 (λ j. eqb (code j) (code 0)))

  pub fault_deep : deep ≡ true → pair_fault level root code ≡ Some 10
  unfolding pair_fault
  fault_deep e = cond-true deep (Some 10) (cond unmerged (Some 11) None) e

  pub fault_unmerged : deep ≡ false → unmerged ≡ true → pair_fault level root code ≡ Some 11
  unfolding pair_fault
  fault_unmerged d e = cond-false deep (Some 10) (cond unmerged (Some 11) None) d ∙ cond-true unmerged (Some 11) None e

  pub fault_none : deep ≡ false → unmerged ≡ false → pair_fault level root code ≡ None
  unfolding pair_fault
  fault_none d e = cond-false deep (Some 10) (cond unmerged (Some 11) None) d ∙ cond-false unmerged (Some 11) None e

  pub not_deep_level : level ≢ 1 → deep ≡ false
  not_deep_level other = and_left (eqb level 1) _ (ne_eqb level 1 other)

  pub not_deep_codes : some 8 (λ j. eqb (code j) 3) ≡ false → deep ≡ false
  not_deep_codes e = and_right (eqb level 1) _ e

-- only the eight codes count
pub fault_same : (level : ℕ) (root : Bool) (code other : ℕ → ℕ) → ((j : ℕ) → j < 8 → code j ≡ other j) → pair_fault level root code ≡ pair_fault level root other
unfolding pair_fault
fault_same level root code other same =
    let first = same 0 (omega arith) in
    let threes : some 8 (λ j. eqb (code j) 3) ≡ some 8 (λ j. eqb (other j) 3) = some_same 8 _ _ (λ j h. ap (λ c. eqb c 3) (same j h)) in
    let equals : all 8 (λ j. eqb (code j) (code 0)) ≡ all 8 (λ j. eqb (other j) (other 0)) = all_same 8 _ _ (λ j h. ap₂ eqb (same j h) first) in
    let merges : (not (eqb (code 0) 3) && all 8 (λ j. eqb (code j) (code 0))) ≡ (not (eqb (other 0) 3) && all 8 (λ j. eqb (other j) (other 0))) = ap₂ (λ c b. not (eqb c 3) && b) first equals in
    ap₂ (λ b c. cond (eqb level 1 && b) (Some 10) (cond (not root && c) (Some 11) None)) threes merges

pub none_some : (number : ℕ) → ◌≡◌ {A = Option ℕ} None (Some number) → ⊥
none_some number e = let z : ◌≡◌ {A = ℕ} 0 1 = cc in omega arith

-- a pair that is taken and not the root's has codes that differ, or are all 3
pub not_merged : (level : ℕ) (root : Bool) (code : ℕ → ℕ) (same : ℕ) → pair_fault level root code ≡ None → root ≡ false → same < 3 → ((j : ℕ) → j < 8 → code j ≡ same) → ⊥
not_merged level root code same fine below h each =
    let here = each 0 (lit< tt) in
    let merges : unmerged level root code ≡ true =
    and_from _ _ (not_from_false root below)
    (and_from _ _ (not_from_false (eqb (code 0) 3) (ne_eqb (code 0) 3 (λ is. omega arith)))
    (all_holds 8 (λ j. eqb (code j) (code 0)) (λ j k. eq-eqb (code j) (code 0) (each j k ∙ sym here)))) in
    ⊎_elim
    (λ three. none_some 10 (sym fine ∙ fault_deep level root code three))
    (λ other. none_some 11 (sym fine ∙ fault_unmerged level root code other merges))
    (cases_Bool (deep level root code))

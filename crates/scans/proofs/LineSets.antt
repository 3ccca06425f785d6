-- What only asks whether some line has a property does not see their order.
use Rattle.std.proofs.Common.{◌≡◌, ℕ, Bool, true, cond, List, [], ◌∷◌, Some, None, sym, refl, ap, ◌∙◌, ap₂, inl, inr, ⊎_elim}
use mathlib.Core.Path.{fun_ext}
use Rattle.std.proofs.lemmas.Bool.{cases_Bool, or_cases, or_left, or_right, false≢true}
use Rattle.std.specs.List.{list_any}
use Rattle.voxels.specs.Space.{voxel_at, voxel_count}
use Rattle.voxels.specs.declared.cells.Cell.{Cell}
use Rattle.voxels.specs.declared.cells.Event.TheVariants.{Hit, Miss}
use Rattle.tracing.specs.Lines.{passes}
use Rattle.stores.specs.Shapes.{Shape}
use Rattle.stores.specs.Sweeps.{sweep_answer, swept}
use Rattle.scans.specs.Alike.{Among, EachAmong, OrderFree, SameLines}
use Rattle.scans.specs.Scans.{ends_in, scan_events, seen_by}
use Rattle.scans.specs.Sweeps.{wanted_by}
use Rattle.scans.specs.Texts.{Return, ScanText}

among_has : (p : Return → Bool) (r : Return) (rs : List Return) → Among r rs → p r ≡ true → list_any p rs ≡ true
among_has p r [] none has = absurd none
among_has p r (s ∷ rs) (inl same) has = or_left (p s) (list_any p rs) (ap p (sym same) ∙ has)
among_has p r (s ∷ rs) (inr later) has = or_right (p s) (list_any p rs) (among_has p r rs later has)

any_among : (p : Return → Bool) (rs others : List Return) → EachAmong rs others → list_any p rs ≡ true → list_any p others ≡ true
any_among p [] others each some = absurd (false≢true some)
any_among p (r ∷ rs) others each some =
    ⊎_elim
    (λ here. among_has p r others (each r (inl refl)) here)
    (λ later. any_among p rs others (λ s in_rest. each s (inr in_rest)) later)
    (or_cases (p r) (list_any p rs) some)

same_any : (p : Return → Bool) (rs others : List Return) → EachAmong rs others → EachAmong others rs → list_any p rs ≡ list_any p others
same_any p rs others there back =
    ⊎_elim
    (λ has. has ∙ sym (any_among p rs others there has))
    (λ none.
    ⊎_elim
    (λ has. absurd (false≢true (sym none ∙ any_among p others rs back has)))
    (λ none'. none ∙ sym none')
    (cases_Bool (list_any p others)))
    (cases_Bool (list_any p rs))

same_events : (depth : ℕ) (text other : ScanText) → SameLines text other → (i : ℕ) → scan_events depth text i ≡ scan_events depth other i
same_events depth text other same i =
    let v = voxel_at depth i in
    let hits = same_any (ends_in v) text.returns other.returns same.there same.back in
    let lines = same_any (λ r. passes text.origin r.end v) text.returns other.returns same.there same.back in
    ap₂ (λ (h p : Bool). cond h (Some Hit) (cond p (Some Miss) None)) hits lines
    ∙ ap (λ o. seen_by o other.returns v) same.origin

pub order_free : (shape : Shape) (cells : ℕ → Cell) (bytes : List ℕ) → OrderFree shape cells bytes
order_free shape cells bytes others text other says says' same =
    let events : scan_events shape.depth text ≡ scan_events shape.depth other = fun_ext (same_events shape.depth text other same) in
    (ap (λ e. sweep_answer shape (wanted_by e cells) cells) events, λ i. ap (λ e. swept shape (wanted_by e cells) cells (voxel_count shape.depth) i) events)

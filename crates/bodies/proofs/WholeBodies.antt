-- The root's pair read to the last byte, or not.
use Rattle.std.proofs.Common.{◌≡◌, ℕ, ◌+◌, ◌^◌, ◌<◌, true, List, [], ◌∷◌, length, Ok, Err, Result, sym, refl, ap, ◌∙◌, subst, ap₂, arith}
use Rattle.bodies.specs.Loads.{judged}
use Rattle.bodies.specs.Readings.{read, read_body, read_pair, whole_of}
use Rattle.bodies.specs.Reads.{BodyRead, Kept, ReadTo, Spared}
use Rattle.bodies.specs.declared.reader.Rest.{Rest}
use Rattle.voxels.specs.Refusals.{Told, taken, refused, number_of, told}
use Rattle.voxels.specs.declared.cells.State.{State}
use Rattle.voxels.specs.declared.refusals.Refusal.{Refusal}
use Rattle.bodies.proofs.KeptStates.{spared_wider, kept_spares}
use Rattle.bodies.proofs.ReadingOn.{refused_as, taken_as}
use Rattle.bodies.proofs.ReadFacts.{states_long}

body_is : (depth : ℕ) (body : List ℕ) → read_body depth body ≡ whole_of (read_pair depth true 0 body)
unfolding read_body
body_is depth body = refl

ends : (states : List State) (next : ℕ) (rest : List ℕ) → length rest ≡ 0 → whole_of (read states next rest) ≡ taken states
ends states next [] none = refl
ends states next (b ∷ bs) none = absurd (omega arith)

goes_on : (states : List State) (next : ℕ) (rest : List ℕ) → 0 < length rest → whole_of (read states next rest) ≡ refused 12 next
goes_on states next [] some_left = absurd (omega arith)
goes_on states next (b ∷ bs) some_left = refl

module _ (depth : ℕ) (body before after : List ℕ) (level first : ℕ) (is : level ≡ depth) (front : first ≡ 0) where
  at_root : (r : Result Rest Refusal) → ReadTo (read_pair level true 0 body) before after level first r → ReadTo (read_pair depth true 0 body) before after depth 0 r
  at_root r done =
      let P : ℕ → Type 0 = λ l. ReadTo (read_pair l true 0 body) before after l first r in
      let Q : ℕ → Type 0 = λ f. ReadTo (read_pair depth true 0 body) before after depth f r in
      subst Q front (subst P is done)

  pub whole_taken : (left : Rest) → ReadTo (read_pair level true 0 body) before after level first (Ok left) → length left.bytes.now ≡ 0 → BodyRead (read_body depth body) before after depth (Ok tt)
  whole_taken left done none =
      let got = taken_as (read_pair depth true 0 body) before after depth 0 left (at_root (Ok left) done) in
      let P : Told (List State) → Type 0 = λ x. BodyRead x before after depth (Ok tt) in
      let says : read_body depth body ≡ taken got.0 = body_is depth body ∙ ap whole_of got.1 ∙ ends got.0 left.at left.bytes.now none in
      subst P (sym says) got.2

  pub whole_trailing : (left : Rest) (e : Refusal) → ReadTo (read_pair level true 0 body) before after level first (Ok left) → 0 < length left.bytes.now → number_of e.reason ≡ 12 → e.place ≡ left.at → BodyRead (read_body depth body) before after depth (Err e)
  whole_trailing left e done some_left number place =
      let got = taken_as (read_pair depth true 0 body) before after depth 0 left (at_root (Ok left) done) in
      let P : Told (List State) → Type 0 = λ x. BodyRead x before after depth (Err e) in
      let says : read_body depth body ≡ refused 12 left.at = body_is depth body ∙ ap whole_of got.1 ∙ goes_on got.0 left.at left.bytes.now some_left in
      let long = states_long depth true 0 body got.0 left.at left.bytes.now got.1 in
      subst P (sym says) (number, place, kept_spares before after 0 (8 ^ depth) got.0 (omega (arith, long)) got.2)

  pub whole_wrong : (e : Refusal) → ReadTo (read_pair level true 0 body) before after level first (Err e) → BodyRead (read_body depth body) before after depth (Err e)
  whole_wrong e done =
      let got = refused_as (read_pair depth true 0 body) before after depth 0 e (at_root (Err e) done) in
      let P : Told (List State) → Type 0 = λ x. BodyRead x before after depth (Err e) in
      let says : read_body depth body ≡ refused (number_of e.reason) e.place = body_is depth body ∙ ap whole_of got.0 in
      subst P (sym says) (refl, refl, spared_wider before after (0 + 8 ^ depth) (8 ^ depth) (omega arith) got.1)

-- what the reading of a body told
pub read_told : (says : Told (List State)) (before after : List ℕ) (depth : ℕ) (r : Result (Unit {0}) Refusal) → BodyRead says before after depth r → told r ≡ judged says
read_told (taken states) before after depth (Ok done) read_so = refl
read_told (taken states) before after depth (Err e) read_so = absurd read_so
read_told (refused number place) before after depth (Ok done) read_so = absurd read_so
read_told (refused number place) before after depth (Err e) read_so = ap₂ refused read_so.0 read_so.1

-- a body that was read, by its result
pub body_taken_as : (says : Told (List State)) (before after : List ℕ) (depth : ℕ) (u : Unit {0}) → BodyRead says before after depth (Ok u) → (states : List State) × (says ≡ taken states) × Kept before after 0 states
body_taken_as (taken states) before after depth u read_so = (states, refl, read_so)
body_taken_as (refused number place) before after depth u read_so = absurd read_so

pub body_refused_as : (says : Told (List State)) (before after : List ℕ) (depth : ℕ) (e : Refusal) → BodyRead says before after depth (Err e) → (says ≡ refused (number_of e.reason) e.place) × Spared before after (8 ^ depth)
body_refused_as (taken states) before after depth e read_so = absurd read_so
body_refused_as (refused number place) before after depth e read_so = (ap₂ refused (sym read_so.0) (sym read_so.1), read_so.2)

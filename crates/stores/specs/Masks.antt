-- A mask closes runs of indices. Its bytes are pairs of an offset and a length, 16 bits each, low byte first.
use Rattle.std.specs.Prelude.{◌≡◌, ℕ, zero, suc, ◌+◌, ◌*◌, ◌/◌, ◌%◌, ◌<◌, ◌≤◌, Bool, cond, not, ◌&&◌, ◌||◌, List, length, is_some, Some, None, Ok, Err, Option, Result, ◌==◌, nat_le, nat_lt, slice_index, slice_index_or}
use Rattle.std.specs.List.{list_any}
use Rattle.voxels.specs.Bounded.{some, first}
use Rattle.voxels.specs.Refusals.{Told, taken, refused, number_of}
use Rattle.voxels.specs.declared.refusals.Refusal.{Refusal}
use Rattle.stores.specs.Shapes.{Shape}
use Rattle.stores.specs.declared.mask.Run.{Run}

-- the indices from offset on, as many as length
abbrev pub in_run : Run → ℕ → Bool
in_run run i = nat_le run.offset i && nat_lt i (run.offset + run.length)

abbrev pub run_end : Run → ℕ
run_end run = run.offset + run.length

abbrev pub no_run : Run
no_run = record { offset = 0; length = 0 }

-- some of the runs holds the index
abbrev pub closed_by : List Run → ℕ → Bool
closed_by runs i = list_any (λ run. in_run run i) runs

-- a store under a mask: that closes too what the mask does
abbrev pub masked_shape : Shape → (ℕ → Bool) → Shape
masked_shape shape mask = record { depth = shape.depth; closed = λ i. shape.closed i || mask i; limit = shape.limit }

-- each run that has an index ends by 32,768, and the one ahead of it has an index too and leaves a gap
abbrev pub Ordered : List Run → Type 0
Ordered runs = (k : ℕ) → 1 ≤ (slice_index_or runs k no_run).length → (run_end (slice_index_or runs k no_run) ≤ 32768) × ((j : ℕ) → suc j ≡ k → (1 ≤ (slice_index_or runs j no_run).length) × (run_end (slice_index_or runs j no_run) < (slice_index_or runs k no_run).offset))

-- what every mask is: sixteen runs in order, those that are not used empty and behind the others
abbrev pub IsMask : List Run → Type 0
IsMask runs = (length runs ≡ 16) × Ordered runs

-- the run that pair p says
abbrev pub pair_run : List ℕ → ℕ → Run
pair_run bytes p = record { offset = slice_index bytes (4 * p) + 256 * slice_index bytes (4 * p + 1); length = slice_index bytes (4 * p + 2) + 256 * slice_index bytes (4 * p + 3) }

abbrev pub pair_count : List ℕ → ℕ
pair_count bytes = length bytes / 4

-- the least offset that pair p may have: any for the first, else above the previous offset plus length
abbrev pub least_offset : List ℕ → ℕ → ℕ
least_offset bytes zero = 0
least_offset bytes (suc q) = run_end (pair_run bytes q) + 1

-- why a run is refused, by number, where its offset has to be at least some number
abbrev pub run_fault : Run → ℕ → Option ℕ
run_fault run least =
    cond (run.length == 0) (Some 21)
    (cond (nat_lt run.offset least) (Some 22)
    (cond (nat_lt 32768 (run_end run)) (Some 23)
    None))

abbrev pub pair_fault : List ℕ → ℕ → Option ℕ
pair_fault bytes p = run_fault (pair_run bytes p) (least_offset bytes p)

-- refused where there is a fault
abbrev pub refused_for : Option ℕ → ℕ → Told (Unit {0})
refused_for None place = taken tt
refused_for (Some number) place = refused number place

-- what a fill tells: the pairs are judged from the front, and the place is the byte where the first wrong one begins
unfoldable pub fill_answer : List ℕ → Told (Unit {0})
fill_answer bytes =
    cond (not (length bytes % 4 == 0)) (refused 19 0)
    (cond (nat_lt 16 (pair_count bytes)) (refused 20 0)
    (elim (first (pair_count bytes) (λ p. is_some (pair_fault bytes p))) [ Some p ↦ refused_for (pair_fault bytes p) (4 * p) | None ↦ taken tt ]))

-- what the bytes close
abbrev pub closed_by_bytes : List ℕ → ℕ → Bool
closed_by_bytes bytes i = some (pair_count bytes) (λ p. in_run (pair_run bytes p) i)

-- the runs of all pairs and behind them empty ones, or the refusal of the fill
abbrev pub RunsRead : List ℕ → Result (List Run) Refusal → Type 0
RunsRead bytes (Ok runs) = (fill_answer bytes ≡ taken tt) × (pair_count bytes ≤ 16) × ((k : ℕ) → k < pair_count bytes → slice_index_or runs k no_run ≡ pair_run bytes k) × ((k : ℕ) → pair_count bytes ≤ k → slice_index_or runs k no_run ≡ no_run) × IsMask runs
RunsRead bytes (Err e) = fill_answer bytes ≡ refused (number_of e.reason) e.place

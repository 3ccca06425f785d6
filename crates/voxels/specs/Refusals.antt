-- Why a call was refused, by number, and where.
use Rattle.std.specs.Prelude.{ℕ, Ok, Err, Result}
use Rattle.voxels.specs.declared.refusals.Reason.{Reason}
use Rattle.voxels.specs.declared.refusals.Reason.TheVariants.{NoMap, ShortPage, NoLineFeed, MalformedLine, MisplacedLine, TickOutside, TooManyReturns, NotEmpty, MissingPair, PairBelowVoxels, UnmergedPair, TrailingBytes, NotOpen, OutOfRange, BlockLimit, MalformedMove, MoveOutside, ShortOutput, RaggedMask, TooManyRuns, EmptyRun, RunNotAbove, RunPastEnd}
use Rattle.voxels.specs.declared.refusals.Refusal.{Refusal}

abbrev pub number_of : Reason → ℕ
number_of NoMap = 1
number_of ShortPage = 2
number_of NoLineFeed = 3
number_of MalformedLine = 4
number_of MisplacedLine = 5
number_of TickOutside = 6
number_of TooManyReturns = 7
number_of NotEmpty = 8
number_of MissingPair = 9
number_of PairBelowVoxels = 10
number_of UnmergedPair = 11
number_of TrailingBytes = 12
number_of NotOpen = 13
number_of OutOfRange = 14
number_of BlockLimit = 15
number_of MalformedMove = 16
number_of MoveOutside = 17
number_of ShortOutput = 18
number_of RaggedMask = 19
number_of TooManyRuns = 20
number_of EmptyRun = 21
number_of RunNotAbove = 22
number_of RunPastEnd = 23

-- what a call told: that it was taken, with an answer, or refused, by a number and a place
pub data Told (A : Type 0) : Type 0 where
  taken : A → Told A
  refused : (number place : ℕ) → Told A

abbrev pub told : {X : Type 0} → Result X Refusal → Told X
told (Ok answer) = taken answer
told (Err e) = refused (number_of e.reason) e.place

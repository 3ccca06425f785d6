-- A reader at its place in a text, and what one step of it does.
use Rattle.std.specs.Prelude.{◌≡◌, ℕ, ◌+◌, ◌<◌, ◌≤◌, false, List, length, Some, None, Ok, Err, Option, Result}
use Rattle.voxels.specs.Refusals.{Told, taken, refused, number_of}
use Rattle.voxels.specs.declared.refusals.Reason.{Reason}
use Rattle.voxels.specs.declared.space.Position.{Position}
use Rattle.scans.specs.Lines.{said_by}
use Rattle.scans.specs.Texts.{Said, Return, Progress, nothing, since, ScanText, outside, line_fault, advanced, read_from, lines_of}
use Rattle.scans.specs.declared.lines.Line.{Line}
use Rattle.scans.specs.declared.lines.Line as line
use Rattle.scans.specs.declared.reader.Reader.{Reader}
use Rattle.scans.specs.declared.reader.Since.{Since}

-- what a reader holds at a progress: no line yet, or an origin of the map and how many return lines
abbrev pub Holds : ℕ → Option Since → Progress → Type 0
Holds depth None progress = progress ≡ nothing
Holds depth (Some s) progress = (returns : List Return) × (progress ≡ since s.origin returns) × (s.returns ≡ length returns) × (outside depth s.origin ≡ false)

abbrev pub Stands : Reader → Progress → Type 0
Stands reader progress = Holds reader.depth reader.since progress

-- what is told of the text from where a reader stands
abbrev pub tells : Reader → Progress → Told ScanText
tells reader progress = read_from reader.depth reader.place progress (lines_of reader.rest.now)

-- the reading ends well at the end line, and goes on behind any other
abbrev pub GoesOn : Reader → Reader → Progress → Line → Type 0
GoesOn before after progress line.TheVariants.End =
    (origin : Position) × (returns : List Return) × (progress ≡ since origin returns) × (tells before progress ≡ taken record { used = after.place; origin = origin; returns = returns })
GoesOn before after progress what = tells before progress ≡ tells after (advanced progress (said_by what))

-- a step over a line
pub record Took (before after : Reader) (progress : Progress) (what : Line) : Type 0 where
  pub depth : after.depth ≡ before.depth
  pub further : length after.rest.now < length before.rest.now
  -- a line that has the form is short
  pub short : after.place ≤ before.place + 17
  pub right : line_fault before.depth progress (said_by what) ≡ None
  pub stands : Stands after (advanced progress (said_by what))
  pub goes_on : GoesOn before after progress what

-- what a reader does at a progress that it stands at
abbrev pub Stepped : Reader → Reader → Progress → Result Line Reason → Type 0
Stepped before after progress (Ok what) = Took before after progress what
Stepped before after progress (Err reason) = (after ≡ before) × (tells before progress ≡ refused (number_of reason) before.place)

-- what is made of a line that has the form
abbrev pub Judged : ℕ → Progress → Said → Result (Option Since) Reason → Type 0
Judged depth progress says (Ok held) = (line_fault depth progress says ≡ None) × Holds depth held (advanced progress says)
Judged depth progress says (Err reason) = line_fault depth progress says ≡ Some (number_of reason)

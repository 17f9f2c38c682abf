-- The page of a run, as text: an HTML document.
use Rattle.std.specs.Prelude.{◌≡◌, ℕ, ◌≤◌, length, List, [], ◌++◌, codes, decimal, Option, None, Some, unwrap_or}
use Rattle.std.specs.List.{flat_map}
use Rattle.cdb_agreement.specs.Algorithms.{rules}
use Rattle.cdb_draw.specs.Limits.{MOST_DRAWN}
use Rattle.cdb_draw.specs.Picture.{IsPicture}
use Rattle.cdb_base.specs.Limits.{COLUMNS}
use Rattle.cdb_rules.specs.RunView.{RunView}
use Rattle.cdb_trail.specs.declared.origins.Origin.{Origin}
use Rattle.cdb_trail.specs.declared.origins.Origin.TheVariants.{Step, Input}
use Rattle.cdb_page.specs.Entries.{AreEntries, Entry}
use Rattle.cdb_page.specs.declared.parts.Refresh.{Refresh}
use Rattle.cdb_page.specs.declared.parts.Refresh.TheVariants.{Never, EachTwoSeconds}
use Rattle.cdb_page.specs.declared.parts.TheConstants.{HEAD, REFRESH, LOOKS, CONTROLS, SCRIPT}

-- positions, each with a comma behind it
abbrev pub positions_text : List ℕ → List ℕ
positions_text positions = flat_map (λ position. decimal position ++ codes ",") positions

-- the step from which a value came, and the process whose input it is; 0 where there is none

abbrev pub from_of : Option Origin → ℕ
from_of (Some (Step i)) = i
from_of origin = 0

abbrev pub input_of : Option Origin → ℕ
input_of (Some (Input q)) = q
input_of origin = 0

-- positions, behind what they are
abbrev pub listed_text : List ℕ → List ℕ → List ℕ
listed_text label positions = label ++ positions_text positions ++ codes "],"

-- which event needs the one of the entry first, 0 where none does, and from where its value came
abbrev pub sources_text : Entry → List ℕ
sources_text entry =
    codes "needed:" ++ decimal (unwrap_or entry.needed 0) ++ codes ",from:" ++ decimal (from_of entry.origin)
    ++ codes ",input:" ++ decimal (input_of entry.origin)

-- an entry as an object of the script
abbrev pub entry_text : Entry → List ℕ
entry_text entry =
    listed_text (codes "{causes:[") entry.causes.items ++ listed_text (codes "dependents:[") entry.dependents.items
    ++ sources_text entry ++ codes "},\n"

-- the entries, one a line
abbrev pub entries_text : List Entry → List ℕ
entries_text entries = flat_map entry_text entries

-- the line by which a browser loads the page again
abbrev pub refresh_text : Refresh → List ℕ
refresh_text Never = []
refresh_text EachTwoSeconds = REFRESH.now

-- the fixed parts, as src/parts.rt has them, the picture, and the entries
abbrev pub page_text : Refresh → List ℕ → List Entry → List ℕ
page_text refresh picture entries =
    HEAD.now ++ refresh_text refresh ++ LOOKS.now ++ picture ++ CONTROLS.now ++ entries_text entries ++ SCRIPT.now

-- the text is the page of the run: its picture, all in full, and an entry for each event
abbrev pub IsPage : Refresh → RunView → List ℕ → Type 0
IsPage refresh run text =
    (picture : List ℕ) × IsPicture rules run COLUMNS None picture
    × (entries : List Entry) × AreEntries run entries
    × (text ≡ page_text refresh picture entries)

-- the same, of a run which has no more events than are drawn
abbrev pub IsPageOfFew : Refresh → RunView → List ℕ → Type 0
IsPageOfFew refresh run text = (length run.history ≤ MOST_DRAWN) × IsPage refresh run text

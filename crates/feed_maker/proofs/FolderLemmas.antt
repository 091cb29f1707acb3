-- A file put in front of the others.
use Rattle.feed_maker.proofs.Common.{◌≡◌, ℕ, List, [], ◌∷◌, ◌++◌, Bool, false, refl, ap, sym, codes, Option, None, Some, if◌then◌else◌, bytes_eq, bytes_eq-Decides, FileMap, file_at, arith}
use Rattle.feed_maker.proofs.Common.{PutsFile, stops_text, routes_text, trips_text, stop_times_text, calendar_text, delays_text, made, other_files, SameFolder}

pub folder_none : (folder : FileMap) → folder ≡ [] → SameFolder [] folder
folder_none folder none = λ path. ap (λ (files : FileMap). file_at files path) none

pub folder_more : (rest old new : FileMap) (path put bytes : List ℕ) → SameFolder rest old → put ≡ bytes → PutsFile old new path put
    → SameFolder ((path, bytes) ∷ rest) new
folder_more rest old new path put bytes same is puts = λ p. grind arith

-- a file that comes first of the others
pub folder_front : (rest old : FileMap) (path put bytes : List ℕ) → SameFolder rest old → put ≡ bytes
    → SameFolder ((path, bytes) ∷ rest) ((path, put) ∷ old)
folder_front rest old path put bytes same is = λ p. grind arith

found_behind : (b : Bool) (bytes : List ℕ) (before both behind : Option (List ℕ)) → (before ≡ None → both ≡ behind)
    → (if b then Some bytes else before) ≡ None → (if b then Some bytes else both) ≡ behind
found_behind b bytes before both behind more none = grind arith

-- where no file before has the path
file_at-behind : (before after : FileMap) (path : List ℕ) → file_at before path ≡ None → file_at (before ++ after) path ≡ file_at after path
file_at-behind [] after path none = refl
file_at-behind (f ∷ fs) after path none =
    found_behind (bytes_eq f.0 path) f.1 (file_at fs path) (file_at (fs ++ after) path) (file_at after path) (file_at-behind fs after path) none

-- a file of another path counts nowhere
file_at-without : (before after : FileMap) (path bytes other : List ℕ) → bytes_eq path other ≡ false
    → file_at (before ++ after) other ≡ file_at (before ++ (path, bytes) ∷ after) other
file_at-without [] after path bytes other apart = sym (ap (λ (b : Bool). if b then Some bytes else file_at after other) apart)
file_at-without (f ∷ fs) after path bytes other apart = grind (arith, file_at-without fs after path bytes other apart)

moved_at : (before after : FileMap) (path bytes p : List ℕ) (b : Bool) → bytes_eq path p ≡ b → file_at before path ≡ None
    → (if b then Some bytes else file_at (before ++ after) p) ≡ file_at (before ++ (path, bytes) ∷ after) p
moved_at before after path bytes p b is none = grind (arith, bytes_eq-Decides, file_at-behind, file_at-without)

-- a file whose path no file before it has may as well come first
folder_moved : (before after : FileMap) (path bytes : List ℕ) → file_at before path ≡ None
    → SameFolder (before ++ (path, bytes) ∷ after) ((path, bytes) ∷ (before ++ after))
folder_moved before after path bytes none = λ p. moved_at before after path bytes p (bytes_eq path p) refl none

-- the stop times in front of the other files
pub stop_times_first : (lines : ℕ) → SameFolder (made lines) ((codes "feed/stop_times.txt", stop_times_text lines) ∷ other_files lines)
unfolding made other_files
stop_times_first lines =
    let before : FileMap = (codes "feed/stops.txt", stops_text lines) ∷ (codes "feed/routes.txt", routes_text lines) ∷ (codes "feed/trips.txt", trips_text lines) ∷ [] in
    let after : FileMap = (codes "feed/calendar.txt", calendar_text) ∷ (codes "delays.csv", delays_text) ∷ [] in
    folder_moved before after (codes "feed/stop_times.txt") (stop_times_text lines) refl

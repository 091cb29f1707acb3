-- The causes of calls that read several things, over steps.
use Rattle.file_ports.proofs.Common.{◌≡◌, ℕ, ◌≤◌, List, Option, arith, cases_lt, FilesState, RoseAt, HasCausesOf}

rose_at : (path : Option (List ℕ)) (before middle now : List ℕ → ℕ) → ((p : List ℕ) → before p ≤ middle p) → RoseAt path middle now → RoseAt path before now
rose_at path before middle now later rose = grind arith

-- the causes of other things, each of which is one of these that has its path
pub causes-of : {K L : Type 0} {U : K → Type 0} {V : L → Type 0} {path : K → Option (List ℕ)} {other : L → Option (List ℕ)}
    {before now : FilesState} → ((l : L) → V l → (k : K) × U k × (path k ≡ other l)) → ((k : K) → U k → (l : L) × V l)
    → HasCausesOf U path before now → HasCausesOf V other before now
causes-of {before = before} {now = now} from to h = grind arith

-- where nothing is unreadable, whatever the paths
pub causes-silent : {K L : Type 0} {U : K → Type 0} {V : L → Type 0} {path : K → Option (List ℕ)} {other : L → Option (List ℕ)}
    {before now : FilesState} → ((k : K) → U k → ⊥) → ((l : L) → V l → ⊥)
    → HasCausesOf U path before now → HasCausesOf V other before now
causes-silent none quiet h = causes-of (λ l is. absurd (quiet l is)) (λ k is. absurd (none k is)) h

-- a step after others of which nothing is unreadable
pub causes-next : {K L : Type 0} {U : K → Type 0} {V : L → Type 0} {other : K → Option (List ℕ)} {path : L → Option (List ℕ)}
    {before middle now : FilesState} → ((k : K) → U k → ⊥) → HasCausesOf U other before middle → HasCausesOf V path middle now → HasCausesOf V path before now
causes-next {path = path} {before = before} {middle = middle} {now = now} none g h = grind (arith, rose_at, cases_lt)

-- a step that reads nothing
pub causes-idle : {K : Type 0} {V : K → Type 0} {path : K → Option (List ℕ)} {state : FilesState} → ((k : K) → V k → ⊥) → HasCausesOf V path state state
causes-idle quiet = grind arith

-- Which calls on a path fail, and how often they have.
use Rattle.std.specs.{Prelude.{◌≡◌, ℕ, List, Bool, false, option_map, nat_eq, unwrap_or}, List.list_any}
use Rattle.file_ports.specs.{Named.value_at, declared.named.Named.Named}
use Rattle.memory_ports.specs.declared.memory.Failing.{Failing}

-- how often calls on this path have failed
abbrev pub faults_in : List (Named Failing) → List ℕ → ℕ
faults_in es path = unwrap_or (option_map (λ (x : Failing). x.faults) (value_at es path)) 0

-- this call on this path fails: call 0 opens it, and call k is the k-th read since then
abbrev pub fails_in : List (Named Failing) → List ℕ → ℕ → Bool
fails_in es path call = unwrap_or (option_map (λ (x : Failing). list_any (λ c. nat_eq c call) x.calls.items) (value_at es path)) false

-- the same calls fail, and as often as they have
pub record SameFailing (old new : List (Named Failing)) : Type 0 where
  pub fails : (path : List ℕ) (call : ℕ) → fails_in new path call ≡ fails_in old path call
  pub counts : (path : List ℕ) → faults_in new path ≡ faults_in old path

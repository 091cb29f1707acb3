-- The hasher of a key.
use Rattle.std.specs.{RandomState.initial_hasher, Hash.DefaultHasher.initial, declared.hash.DefaultHasher.DefaultHasher}
use Rattle.plan_model.specs.declared.hash_key.HashKey.{HashKey, TheVariants.{Drawn, Fixed}}

-- the hasher of std, with the keys that were drawn or with none
abbrev pub first_hasher : HashKey → DefaultHasher
first_hasher (Drawn state) = initial_hasher state
first_hasher Fixed = initial

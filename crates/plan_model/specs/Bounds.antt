-- The bounds of the numbers of a network, and of a question.
use Rattle.std.specs.Prelude.{ℕ}

-- the most connections of a network
abbrev pub most_connections : ℕ
most_connections = 8388608

-- each step of a run is below it
abbrev pub end_of_steps : ℕ
end_of_steps = 1000000000

-- 2401-01-01T00:00:00: each arrival of a network is due before it
abbrev pub end_of_arrivals : ℕ
end_of_arrivals = 13601088000

-- a day later, since a delay is at most a day: no traveller arrives after it
abbrev pub last_moment : ℕ
last_moment = 13601174400

-- and a second later
abbrev pub end_of_time : ℕ
end_of_time = 13601174401

-- 1970-01-08T00:00:00: no journey starts before it
abbrev pub first_start : ℕ
first_start = 604800

-- 2399-12-31T23:59:59: no journey starts after it
abbrev pub last_start : ℕ
last_start = 13569465599

-- the percentages of a deadline
abbrev pub least_alpha : ℕ
least_alpha = 100

abbrev pub most_alpha : ℕ
most_alpha = 1000

-- the hours of a window
abbrev pub least_horizon : ℕ
least_horizon = 1

abbrev pub most_horizon : ℕ
most_horizon = 72

-- the sizes of a feed that is made
abbrev pub least_size : ℕ
least_size = 10

abbrev pub most_size : ℕ
most_size = 400

abbrev pub nanos_per_second : ℕ
nanos_per_second = 1000000000

abbrev pub seconds_per_day : ℕ
seconds_per_day = 86400

-- certainty, in the units of a chance: 10 to the -18
abbrev pub certainty : ℕ
certainty = 1000000000000000000

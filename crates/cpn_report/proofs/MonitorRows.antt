-- Worked lines of monitors, each with a different number in each of its places; among them sums past 2^63 on both sides, the least
-- integer of 64 bits, and no values at all. And the end of a run that a monitor stopped, with the lines of its monitors in their order.
use Rattle.std.proofs.Common.{◌≡◌, pos, negsuc, ◌-◌, ◌^◌, [], ◌∷◌, List, Some, None, refl}
use Rattle.std.specs.Prelude.{codes}
use Rattle.std.specs.Fmt.{digits}
use Rattle.cpn_definitions.specs.Net.{PlainNet}
use Rattle.cpn_monitor.specs.MonitorValues.{counted, sized, valued, counted_to_stop, sized_to_stop, PlainMonitorValue}
use Rattle.cpn_runs.specs.State.{stopped_by}
use Rattle.cpn_report.specs.Lines.{end_text}
use Rattle.cpn_report.specs.MonitorText.{monitor_text}
use Rattle.cpn_report.specs.Told.{without_time}

-- ---- each kind

a_count : monitor_text (record { name = codes "fired"; measured = counted 7 }) ≡ codes "monitor count 7 fired"
unfolding monitor_text digits
a_count = refl

a_size : monitor_text (record { name = codes "on A"; measured = sized 2 9 4 123 8 }) ≡ codes "monitor size 2 9 4 123 on A"
unfolding monitor_text digits
a_size = refl

some_values : monitor_text (record { name = codes "v"; measured = valued 3 (negsuc 13) (Some (negsuc 8)) (Some (pos 5)) 6 }) ≡ codes "monitor value 3 ~14 ~9 5 6 v"
unfolding monitor_text digits
some_values = refl

no_values : monitor_text (record { name = codes "v"; measured = valued 0 (pos 0) None None 3 }) ≡ codes "monitor value 0 0 none none 3 v"
unfolding monitor_text digits
no_values = refl

a_stop_by_count : monitor_text (record { name = codes "once"; measured = counted_to_stop 1 }) ≡ codes "monitor stop_count 1 once"
unfolding monitor_text digits
a_stop_by_count = refl

a_stop_by_size : monitor_text (record { name = codes "full"; measured = sized_to_stop 10 }) ≡ codes "monitor stop_size 10 full"
unfolding monitor_text digits
a_stop_by_size = refl

-- ---- large numbers

-- the greatest sum of sizes that 2^112 is above
a_large_size : monitor_text (record { name = codes "a"; measured = sized 0 (2 ^ 48 - 1) 1 (2 ^ 112 - 1) 0 }) ≡ codes "monitor size 0 281474976710655 1 5192296858534827628530496329220095 a"
unfolding monitor_text digits
a_large_size = refl

-- a sum past 2^63
a_large_sum : monitor_text (record { name = codes "v"; measured = valued 4 (pos (2 ^ 65 - 4)) (Some (pos (2 ^ 63 - 1))) (Some (pos (2 ^ 63 - 1))) 0 }) ≡ codes "monitor value 4 36893488147419103228 9223372036854775807 9223372036854775807 0 v"
unfolding monitor_text digits
a_large_sum = refl

-- the least integers of 128 and of 64 bits
the_least_sum : monitor_text (record { name = codes "v"; measured = valued 2 (negsuc (2 ^ 127 - 1)) (Some (negsuc (2 ^ 63 - 1))) (Some (negsuc 0)) 0 }) ≡ codes "monitor value 2 ~170141183460469231731687303715884105728 ~9223372036854775808 ~1 0 v"
unfolding monitor_text digits
the_least_sum = refl

-- ---- what a line tells: each number but the time up to which a sum counts

told_of_sizes : without_time (sized 1 2 3 4 5) ≡ sized 1 2 3 4 0
told_of_sizes = refl

told_of_values : without_time (valued 1 (pos 2) (Some (pos 3)) (Some (pos 4)) 5) ≡ valued 1 (pos 2) (Some (pos 3)) (Some (pos 4)) 5
told_of_values = refl

told_of_counts : without_time (counted 1) ≡ counted 1
told_of_counts = refl

told_of_a_stop_by_count : without_time (counted_to_stop 1) ≡ counted_to_stop 1
told_of_a_stop_by_count = refl

told_of_a_stop_by_size : without_time (sized_to_stop 1) ≡ sized_to_stop 1
told_of_a_stop_by_size = refl

-- ---- a stop

abbrev no_net : PlainNet
no_net = record { places = []; transitions = []; variables = []; constants = []; constructors = []; functions = [] }

abbrev two_values : List PlainMonitorValue
two_values = record { name = codes "fired"; measured = counted 7 } ∷ record { name = codes "the end"; measured = counted_to_stop 2 } ∷ []

end_by_a_stop : end_text no_net two_values (stopped_by 1) ≡ codes "end stop the end"
unfolding end_text
end_by_a_stop = refl

end_by_the_first : end_text no_net two_values (stopped_by 0) ≡ codes "end stop fired"
unfolding end_text
end_by_the_first = refl

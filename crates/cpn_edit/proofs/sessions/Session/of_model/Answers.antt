-- It stands for the session of the model.
use Rattle.std.proofs.Common.{◌≡◌, ℕ, ◌+◌, ◌<◌, ◌^◌, ◌%◌, refl, sym, ap, ◌∙◌, arith}
use Rattle.std.proofs.Math.Nat.{mod-eq_of_lt}
use Rattle.cpn_core.specs.Inscriptions.{funs_view}
use Rattle.cpn_core.specs.Nets.{net_view}
use Rattle.cpn_flat.specs.Views.{loaded_view}
use Rattle.cpn_model.specs.Views.{model_view}
use Rattle.cpn_monitor.specs.Views.{monitors_view}
use Rattle.cpn_edit.proofs.ModelSessions.{model_valid}
use Rattle.cpn_edit.proofs.sessions.Session.of_model.Goals as goal

first_seed : (n : ℕ) → n < 2 ^ 64 → n ≡ (n + 0) % 2 ^ 64
first_seed n small = let same : n ≡ n + 0 = omega arith in same ∙ sym (mod-eq_of_lt (omega (arith, small)))

pub returns : goal.returns
returns c =
    let limits = c.args.limits in
    record {
      stands = record {
        but_latest = record {
          valid = model_valid (record { seed = c.args.seed; steps = limits.steps; until = limits.until; seats = limits.seats }) (loaded_view c.args.model.loaded) (model_view c.args.model) c.requires.reads c.requires.ready c.requires.few_steps c.requires.in_time
              c.requires.some_seat c.requires.few_seats;
          declared = refl;
          net = ap net_view c.in_ok-net.ensures.net;
          initial = refl;
          functions = ap (λ m. funs_view m.funs.value) c.in_ok-net.ensures.monitors ∙ c.requires.fit.functions_are;
          monitors = ap monitors_view c.in_ok-net.ensures.monitors;
          phases = c.in_ok-net.ensures.phases;
          steps = omega arith;
          until = refl;
          seats = refl;
          seed = first_seed c.args.seed c.ranges.seed.fits;
        };
        latest = tt;
      };
    }

pub mod GeneratedNets

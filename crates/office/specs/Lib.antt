pub mod Office
pub mod Probes

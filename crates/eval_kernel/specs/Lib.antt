pub mod Kernel
